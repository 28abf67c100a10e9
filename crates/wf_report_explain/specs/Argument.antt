-- What contracts say, here and in the crates above.
pub mod Parts
pub mod ArgumentState
pub mod Text
pub mod Laws
-- What they say of the program's own: what it keeps, and what it is to tell.
pub mod Seats
pub mod Subject
pub mod Trail
pub mod Used
-- Worked examples: what the definitions give, by computation.
pub mod Examples
