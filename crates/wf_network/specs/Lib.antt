-- What contracts say, here and in the crates above.
pub mod Limits
pub mod Users
pub mod Marks
pub mod Problems
pub mod Revising
-- What only this crate's own code and proofs use.
pub mod Stands
pub mod Leads
