pub mod Joins
pub mod Runs
pub mod Rows
pub mod Loops
mod Stores
