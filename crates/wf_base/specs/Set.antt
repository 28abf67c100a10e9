pub mod Parts
pub mod Sets
