-- What a line of a file of cases says.
pub mod Promises
pub mod Lines
