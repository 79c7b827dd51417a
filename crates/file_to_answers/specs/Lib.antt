-- From file to answers: the files of a column, what the calls answer for any buffers, and that they answer as the scan does.
pub mod Layout
pub mod Reading
pub mod Promises
pub mod Claims
pub mod Starred
