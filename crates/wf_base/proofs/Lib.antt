pub mod OfStreams
pub mod OfSet
