-- What contracts say, here and in the crates above.
pub mod Text
pub mod Table
pub mod Listing
pub mod Summary
pub mod Subject
-- Worked examples: what the definitions give, by computation.
pub mod Examples
