-- What contracts say, here and in the crates above.
pub mod Among
pub mod Lift
pub mod Laws
-- Worked examples: what the definitions give, by computation.
pub mod Examples
-- What only this crate's own code and proofs use.
pub mod Stretches
