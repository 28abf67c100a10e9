-- What contracts say, here and in the crates above.
pub mod Lines
