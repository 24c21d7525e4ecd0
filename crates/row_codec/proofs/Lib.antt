pub mod Batches
pub mod Fields
pub mod Growth
pub mod Loop
pub mod Rows
