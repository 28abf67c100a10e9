pub mod PointLists
pub mod PresetCounts
pub mod EveryRun
