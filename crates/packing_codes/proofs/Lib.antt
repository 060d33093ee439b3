pub mod Columns
pub mod Ranges
mod Walks
mod Doubles
