-- What contracts say, here and in the crates above.
pub mod Preset
pub mod Laws
-- What only this crate's own code and proofs use.
pub mod Family
