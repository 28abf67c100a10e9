pub mod OfBalance
pub mod OfCover
