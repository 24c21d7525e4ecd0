pub mod Choices
pub mod KeptLemmas
pub mod OneList
pub mod Picks
