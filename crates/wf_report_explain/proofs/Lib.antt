pub mod OfArgument
pub mod OfWords
