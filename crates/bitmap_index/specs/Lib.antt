-- The bitmap body of one column: columns and the scan, what may be laid out, what is read of any bytes, what contracts cite, and what is claimed of it all.
pub mod Meaning
pub mod Names
pub mod Layout
pub mod Reading
pub mod Promises
pub mod Claims
