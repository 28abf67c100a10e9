-- What contracts say, here and in the crates above.
pub mod Codes
pub mod Text
pub mod Moves
pub mod Examples
