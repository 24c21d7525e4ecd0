pub mod Booted
pub mod Refused
