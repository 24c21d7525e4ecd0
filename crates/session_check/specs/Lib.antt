pub mod Apart
pub mod Before
pub mod LawfulSessions
pub mod Marks
pub mod Sound
