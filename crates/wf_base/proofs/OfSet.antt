pub mod SetLaws
pub mod PartLaws
pub mod Listing
pub mod Boxes
pub mod Lemmas
