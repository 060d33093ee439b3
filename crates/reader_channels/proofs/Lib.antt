-- values
pub mod Answered
-- level_and_boundary
pub mod Heads
-- the whole
pub mod HeaderChannels
pub mod Headed
pub mod Walks
