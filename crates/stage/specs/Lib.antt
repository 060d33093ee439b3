pub mod Lengths
pub mod Delivery
