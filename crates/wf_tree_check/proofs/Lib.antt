pub mod Judged
pub mod Entering
pub mod Walking
