pub mod LastNode
pub mod NumberWords
pub mod NodeLines
pub mod LinesOfNodes
pub mod LineWords
pub mod Written
pub mod ReadBack
