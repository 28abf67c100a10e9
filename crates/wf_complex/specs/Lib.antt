-- What contracts say, here and in the crates above.
pub mod Faults
pub mod Protocol
pub mod Packed
pub mod Views
-- What only this crate's own code and proofs use.
pub mod Rounds
pub mod Numbering
pub mod Layout
pub mod Places
pub mod Classes
pub mod ProtocolMade
pub mod ProtocolSeen
pub mod Table
pub mod Renaming
pub mod Same
