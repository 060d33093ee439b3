pub mod Sums
pub mod Division
pub mod Digits
pub mod Laws
pub mod Theorems
pub mod Ends
pub mod Sealed
