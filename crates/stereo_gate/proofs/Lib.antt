pub mod Loud
pub mod Opened
