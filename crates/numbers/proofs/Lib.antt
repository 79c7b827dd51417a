-- Laws of numbers, of bytes, of tests and of tables.
pub mod Booleans
pub mod ByteLists
pub mod Laws
pub mod Signed
pub mod SameBytes
pub mod Tables
mod Words
