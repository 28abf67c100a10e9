-- What contracts say, here and in the crates above.
pub mod Found
pub mod FoundMap
pub mod Cover
-- What only this crate's own code and proofs use.
pub mod SearchStack
pub mod Turning
pub mod Outline
-- Worked examples: what the definitions give, by computation.
pub mod Examples
