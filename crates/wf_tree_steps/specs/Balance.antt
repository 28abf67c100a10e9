-- What contracts say, here and in the crates above.
pub mod AtHand
pub mod Multipliers
pub mod Judge
-- What only the crate's own code and proofs use.
pub mod Filled
pub mod Keys
-- Worked examples: what the definitions give, by computation.
pub mod Examples
