pub mod Batches
mod Commits
mod Once
mod Opened
