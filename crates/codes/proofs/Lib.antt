pub mod Columns
pub mod Bands
mod Differences
