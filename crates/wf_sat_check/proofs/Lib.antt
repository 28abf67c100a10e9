pub mod OfStore
pub mod OfRup
pub mod OfLrat
