pub mod Streams
pub mod Set
pub mod Lines
