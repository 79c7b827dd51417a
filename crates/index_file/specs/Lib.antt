-- What a writer may lay out, what is read of any bytes, what the contracts of `index_file` cite, and the claims between layout and reading.
pub mod Layout
pub mod Reading
pub mod Promises
pub mod Claims
