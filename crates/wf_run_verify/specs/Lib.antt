-- What is accepted and told, alone on a page.
pub mod Headline
-- What contracts say, here and in the crates above.
pub mod Verify
pub mod AsRead
pub mod Obstructions
pub mod Certificates
pub mod Models
pub mod Proofs
pub mod Hints
pub mod Formats
pub mod Readers
pub mod Laws
