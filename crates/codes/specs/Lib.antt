pub mod Columns
pub mod Bands
