pub mod Lemmas
pub mod BlockLemmas
pub mod PlaceLemmas
pub mod ExecutionLemmas
pub mod RootLemmas
pub mod ClaimLemmas
pub mod FirstLemmas
pub mod SettledLemmas
pub mod SupportLemmas
pub mod TruthLemmas
pub mod JudgedSteps
pub mod KeptValues
mod RowBlockLemmas
mod BuildLemmas
mod GroupLemmas
