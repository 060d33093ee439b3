pub mod Passed
pub mod Last
