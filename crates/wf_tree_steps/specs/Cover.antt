-- What contracts say, here and in the crates above.
pub mod Faults
pub mod Limits
-- How covers are checked: moves under keys.
pub mod Turns
-- What the code has of a cover.
pub mod LiftSeen
