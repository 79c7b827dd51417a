-- What Subtract means, what it answers, and what is proved of it.
pub mod Meaning
pub mod Reading
pub mod Claims
