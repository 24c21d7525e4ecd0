-- The test decides whether a world is lawful. It stands on `facts`.
pub mod DecidedModules
pub mod DecidedRecords
pub mod DecidedWorlds
