pub mod Lemmas
pub mod AddedOptions
pub mod ParsedWords
pub mod MatchGetters
