-- What contracts say, here and in the crates above.
pub mod Patterns
pub mod Encoding
pub mod Dimacs
pub mod SolverText
pub mod Laws
pub mod Branches
pub mod BranchLaws
-- Worked examples: what the definitions give, by computation.
pub mod Examples
pub mod SolverTextExamples
pub mod BranchExamples
