-- What contracts say, here and in the crates above.
pub mod Alike
pub mod Tuples
pub mod Parts
pub mod Refined
pub mod Balance
pub mod Stars
pub mod Cases
pub mod Splits
pub mod Covers
pub mod Trees
pub mod KnownResults
pub mod Laws
-- Worked examples: what the definitions give, by computation.
pub mod Examples
pub mod Counting
