pub mod Searching
pub mod Cleared
