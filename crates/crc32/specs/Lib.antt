-- What CRC-32 is, and check values of it.
pub mod Meaning
pub mod Claims
