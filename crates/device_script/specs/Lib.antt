pub mod Blocks
pub mod Draft
pub mod Images
pub mod Keywords
pub mod Lines
pub mod Script
pub mod Words
