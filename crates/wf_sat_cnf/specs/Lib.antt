-- What contracts say, here and in the crates above.
pub mod Patterns
pub mod Models
-- What the crate's own code and proofs use.
pub mod Found
pub mod Groups
pub mod Variables
pub mod Clauses
pub mod Exclusions
pub mod Reading
pub mod Head
pub mod Questions
pub mod Posed
pub mod Tokens
pub mod TakingLaws
