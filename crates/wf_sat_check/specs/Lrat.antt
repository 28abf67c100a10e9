-- What contracts say, here and in the crates above.
pub mod Ledger
pub mod Hints
pub mod Models
pub mod Fed
pub mod Slots
pub mod Examples
