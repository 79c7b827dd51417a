-- Values in stored form.
pub mod Meaning
pub mod Reading
pub mod Promises
pub mod Places
