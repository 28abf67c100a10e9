pub mod Lemmas
pub mod TurnLemmas
pub mod Rounds
pub mod FaultSteps
pub mod Coverings
pub mod LiftSteps
