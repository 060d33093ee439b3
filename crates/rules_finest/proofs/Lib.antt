pub mod Orders
pub mod Growth
pub mod Falls
pub mod StageGrows
pub mod Finest
pub mod PremiseNeeded
pub mod ModesAgree
