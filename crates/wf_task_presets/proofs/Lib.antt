pub mod AgreementOutputs
pub mod RenamingOutputs
pub mod FamilyTasks
pub mod FamilyLoops
pub mod PresetLimits
pub mod AllowedByRules
