pub mod Poly
pub mod Check
pub mod Table
pub mod Sealed
