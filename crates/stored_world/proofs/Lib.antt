pub mod BatchRows
pub mod Batches
pub mod Room
