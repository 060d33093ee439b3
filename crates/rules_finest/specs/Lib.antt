pub mod Finest
