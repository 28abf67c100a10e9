pub mod Lemmas
pub mod ToldLines
pub mod RunsInPieces
pub mod Counts
pub mod GivenTask
pub mod SourceCounts
pub mod RunsOverTwoSources
