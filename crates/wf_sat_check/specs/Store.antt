-- What contracts say, here and in the crates above.
pub use Rattle.wf_sat_text.specs.Drat.Codes
pub mod Literals
pub mod Alike
pub mod Index
pub mod Laid
pub mod FirstOccurrence
pub mod Examples
