pub mod facts
pub mod lawful
