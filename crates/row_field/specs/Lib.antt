-- What a row field means, and what contracts between functions cite.
pub mod Meaning
pub mod Promises
