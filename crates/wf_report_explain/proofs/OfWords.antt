pub mod ExecutionPlaces
pub mod ListsInWords
pub mod Margins
pub mod Pieces
pub mod Sizes
pub mod ValuesInWords
