-- What contracts say, here and in the crates above.
pub mod Signs
pub mod Rules
pub mod Laws
-- Worked examples: what the definitions give, by computation.
pub mod Examples
