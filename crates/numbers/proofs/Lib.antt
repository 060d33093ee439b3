pub mod HighFirst
pub mod Replaced
mod Loops
mod LowFirst
