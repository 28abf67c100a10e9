pub mod Store
pub mod Rup
pub mod Lrat
