-- Laws of lines, words and numbers.
pub mod Words
pub mod Laying
