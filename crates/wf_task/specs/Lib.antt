-- What contracts say, here and in the crates above.
pub mod Slots
pub mod Judge
pub mod Mask
pub mod TaskSeen
pub mod Canonical
-- What only this crate's own code and proofs use.
pub mod Filled
pub mod Tuples
pub mod Faultless
pub mod Borders
