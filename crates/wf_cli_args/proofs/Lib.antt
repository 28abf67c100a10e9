pub mod AddedCommands
pub mod ParsedWords
