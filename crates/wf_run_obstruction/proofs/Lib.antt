pub mod Lemmas
pub mod SearchRuns
pub mod TriedNodes
