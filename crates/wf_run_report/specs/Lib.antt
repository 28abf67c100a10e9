pub mod Trimming
pub mod Trimmed
pub mod Explaining
pub mod Lifting
pub mod LiftingLaws
