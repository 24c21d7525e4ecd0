pub mod Fives
pub mod Names
pub mod Slices
