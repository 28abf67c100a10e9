pub mod Files
pub mod FileRuns
pub mod FileLaws
pub mod VersionText
pub mod Notes
pub mod Refusals
pub mod Showing
pub mod Laws
