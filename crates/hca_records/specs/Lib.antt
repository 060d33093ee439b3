-- write
pub mod WriteRecord
-- read
pub mod ReadFrame
