pub mod Data
pub mod Files
pub mod Kept
pub mod Records
pub mod RowBytes
