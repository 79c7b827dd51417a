-- Names: their two forms as bytes, what is read of any bytes, what the contracts of `names` cite, and the claims between layout and reading.
pub mod Layout
pub mod Reading
pub mod Promises
pub mod Claims
