pub mod Lemmas
-- Sums and signs.
pub mod Sums
pub mod Remainders
pub mod Lists
-- Executions.
pub mod Words
pub mod Rounds
pub mod Signed
pub mod LastViews
pub mod Renaming
-- Tasks.
pub mod Faces
pub mod ComputedTests
