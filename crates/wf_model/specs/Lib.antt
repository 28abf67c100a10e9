-- What contracts say, here and in the crates above.
pub mod Lists
pub mod Limits
pub mod Simplex
pub mod Word
pub mod Task
pub mod View
pub mod Execution
pub mod Points
pub mod DecisionMap
pub mod Problem
pub mod Box
pub mod Refutation
pub mod Split
pub mod Outline
pub mod Laws
pub mod LeastTree
pub mod Report
pub mod ViewsText
pub mod PointsText
pub mod Check
pub mod AllSolutions
pub mod Presets
pub mod ViewCode
-- What the program writes: which of many refutations, line by line. It is no fact of the field.
pub mod Closing
-- Worked examples: what the definitions give, by computation.
pub mod ExampleTasks
pub mod Examples
pub mod LargeExamples
pub mod TextExamples
pub mod OutlineExamples
