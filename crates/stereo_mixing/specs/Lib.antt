pub mod Bounds
pub mod Bands
