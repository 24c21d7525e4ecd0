mod Entries
pub mod Maps
pub mod Rooms
