-- What contracts say, here and in the crates above.
pub mod Account
pub mod Core
pub mod Count
pub mod Laws
-- What only this crate's own code and proofs use.
pub mod Fields
