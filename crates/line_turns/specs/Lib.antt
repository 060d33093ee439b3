pub mod Turn
pub mod Bounded
