-- Opening a version 2 body for lookups: where its directory's entries stand, what is read of any bytes, what contracts cite, and what is claimed of it all.
pub mod Layout
pub mod Reading
pub mod Promises
pub mod Claims
