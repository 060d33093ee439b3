-- values
pub mod Ranges
-- the whole
pub mod Answers
pub mod Chunks
