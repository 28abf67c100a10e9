-- What contracts say, here and in the crates above.
pub mod Branches
pub mod Listing
pub mod Refuting
pub mod Hints
pub mod Solving
pub mod Verifying
pub mod Joining
pub mod Searched
pub mod Laws
pub mod SolvedReports
