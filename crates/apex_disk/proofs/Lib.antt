pub mod Moments
pub mod Written
mod Kept
mod Picks
mod Ranges
