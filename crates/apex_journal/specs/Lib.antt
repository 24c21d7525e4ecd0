pub mod Appends
pub mod Gate
pub mod Header
pub mod Heads
pub mod Journal
pub mod Pieces
pub mod Records
pub mod Refusals
