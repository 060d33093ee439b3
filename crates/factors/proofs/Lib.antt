pub mod OrderLaws
pub mod Count
pub mod GuessLaws
pub mod Small
pub mod TopLaws
pub mod FiniteLaws
pub mod Cleared
pub mod Channel
