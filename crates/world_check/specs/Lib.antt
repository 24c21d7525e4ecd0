pub mod Counted
pub mod DataRows
pub mod FilesRead
pub mod LawfulParts
pub mod RightModules
pub mod Runs
pub mod WatchRows
