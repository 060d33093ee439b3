pub mod Small
pub mod Scaled
pub mod HoldLaws
pub mod Stored
