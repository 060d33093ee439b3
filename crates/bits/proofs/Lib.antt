pub mod Numbers
pub mod Parts
pub mod Runs
pub mod Fields
mod Words
mod Shifts
