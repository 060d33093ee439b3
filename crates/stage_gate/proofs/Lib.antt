pub mod Rooms
pub mod Searches
pub mod Parts
