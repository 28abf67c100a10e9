-- What contracts say, here and in the crates above.
pub mod Entries
pub mod Reading
pub mod Order
pub mod Faces
-- What only this crate's own code and proofs use.
pub mod WordTable
pub mod FaultText
pub mod Keys
pub mod Adding
