-- What contracts say, here and in the crates above.
pub mod Limits
pub mod Closes
pub mod Least
pub mod Changes
pub mod Boxes
pub mod Kept
-- What only this crate's own code and proofs use.
pub mod Steps
pub mod Quiet
pub mod Working
