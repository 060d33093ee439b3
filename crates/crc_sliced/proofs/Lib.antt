pub mod Xors
pub mod Sliced
