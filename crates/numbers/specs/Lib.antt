-- What numbers of several bytes mean.
pub mod Meaning
