pub mod Batch
pub mod Slices
