-- What contracts say, here and in the crates above.
pub mod Desk
-- What only this crate's own code and proofs use.
pub mod Rule
pub mod Shows
