pub mod Words
pub mod Service
