pub mod Guess
pub mod Finite
pub mod Top
