-- A deletion file: what may be laid out, what Read deletions answers for any bytes, what the functions promise, and that layout and reading agree.
pub mod Layout
pub mod Reading
pub mod Promises
pub mod Claims
