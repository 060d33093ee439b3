pub mod Places
pub mod Fitting
mod Refusing
