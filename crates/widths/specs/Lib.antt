-- deltas
pub mod Previous
-- the whole
pub mod Walks
