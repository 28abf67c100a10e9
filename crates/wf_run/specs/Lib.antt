pub mod Faults
pub mod Run
pub mod Texts
pub mod Given
pub mod Sources
pub mod Laws
