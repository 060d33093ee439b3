pub mod MonoLaws
pub mod WithinLaws
pub mod HeldLaws
pub mod EdgeLaws
pub mod ZoneLaws
pub mod StageWithin
