-- What contracts say, here and in the crates above.
pub mod Reports
pub mod Faults
pub mod Grammar
pub mod Reading
pub mod Steps
pub mod Limits
pub mod Windows
pub mod Reads
pub mod Fronts
pub mod Parts
-- What only this crate's own code and proofs use.
pub mod Numbers
pub mod Writing
