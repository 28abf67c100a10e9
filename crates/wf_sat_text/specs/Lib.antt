pub mod Clauses
pub mod Drat
pub mod Lrat
