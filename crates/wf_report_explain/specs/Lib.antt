pub mod Argument
pub mod Words
