-- Looking a value up in an opened body: what is read of any bytes, what contracts cite, and what is claimed of it all.
pub mod Reading
pub mod Promises
pub mod Claims
