pub mod Front
pub mod Pushed
pub mod Room
pub mod Units
