pub mod Among
pub mod OwnViews
pub mod Lifts
pub mod Places
pub mod Executions
pub mod WordListCounts
pub mod LiftedValues
pub mod Lemmas
