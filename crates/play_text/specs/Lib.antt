pub mod Marks
pub mod Put
