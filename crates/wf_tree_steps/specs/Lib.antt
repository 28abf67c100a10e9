pub mod Balance
pub mod Cover
