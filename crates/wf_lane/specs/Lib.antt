-- What contracts say, here and in the crates above.
pub mod Words
pub mod Table
-- What only this crate's own code and proofs use.
pub mod Rows
pub mod Meeting
pub mod Wide
pub mod Kinds
