pub mod CheckWords
pub mod CountedChecks
pub mod TrueChecks
