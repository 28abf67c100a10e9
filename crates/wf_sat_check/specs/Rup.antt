-- What contracts say, here and in the crates above.
pub use Rattle.wf_sat_text.specs.Drat.Codes
pub use Rattle.wf_sat_text.specs.Drat.Text
pub use Rattle.wf_sat_text.specs.Drat.Moves
pub mod Stored
pub mod Propagation
pub mod Settled
pub mod Seen
pub mod Unit
pub mod Rat
pub mod Resolving
pub mod Deleted
pub mod Fed
pub mod Kept
pub mod Posed
pub mod Whole
pub mod Laws
pub mod Examples
