pub mod Arm
pub mod Content
pub mod Disk
pub mod File
pub mod Memory
pub mod Meter
pub mod Moments
pub mod Pick
