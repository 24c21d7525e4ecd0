pub mod Device
pub mod Events
pub mod Headline
pub mod Played
pub mod Run
pub mod Source
pub mod Stages
