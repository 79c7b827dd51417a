-- Values that stand in a byte slice, held by a table of numbers.
pub mod Promises
