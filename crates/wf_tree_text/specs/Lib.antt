-- What contracts say, here and in the crates above.
pub mod Text
pub mod Seen
pub mod Laws
-- What only this crate's own code and proofs use.
pub mod Steps
-- Worked examples: what the definitions give, by computation.
pub mod Examples
