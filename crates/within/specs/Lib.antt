pub mod Within
pub mod Zones
