-- What contracts say, here and in the crates above.
pub mod Faults
pub mod Truth
pub mod Within
pub mod Left
pub mod Rules
pub mod Judged
-- What only this crate's own code and proofs use.
pub mod Blocks
pub mod Settled
pub mod Claims
pub mod Places
pub mod RowBlocks
pub mod Groups
