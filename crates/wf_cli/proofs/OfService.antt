pub mod Lemmas
pub mod FileCounts
pub mod DeclinedWords
