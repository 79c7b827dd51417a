-- Laws of the hash, and of a table's chains.
pub mod Hashing
pub mod Chaining
