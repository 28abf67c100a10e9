-- What contracts say, here and in the crates above.
pub mod Limits
pub mod Judge
pub mod Laws
-- How the checker goes from node to node.
pub mod Walk
-- Worked examples, by computation.
pub mod Examples
