pub mod Inside
pub mod Loudness
