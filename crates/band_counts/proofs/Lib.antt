pub mod Entries
pub mod Zones
