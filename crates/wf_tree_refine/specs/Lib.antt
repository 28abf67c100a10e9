-- What contracts say, here and in the crates above.
pub mod Near
pub mod Names
pub mod AtHand
pub mod Limits
pub mod Choices
-- What the code has of a split.
pub mod SplitSeen
-- How the parts are found: trees of numbers, and keys.
pub mod Forest
pub mod Keys
