pub mod OfWords
pub mod OfService
