-- What contracts say, here and in the crates above.
pub mod FaultText
pub mod Shape
pub mod Plain
pub mod RawTask
pub mod DraftSeen
pub mod Text
pub mod Listed
-- What only this crate's own code and proofs use.
pub mod Cursor
pub mod Parts
pub mod Members
