pub mod CommandLine
pub mod Asked
pub mod Checker
pub mod Laws
pub mod Headline
