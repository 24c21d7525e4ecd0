pub mod Commits
pub mod Opening
pub mod Refused
pub mod Rows
pub mod Store
