pub mod Earlier
pub mod Keeping
pub mod Latest
pub mod Named
pub mod Placed
pub mod Settled
pub mod Spelled
