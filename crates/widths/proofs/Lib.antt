-- deltas
pub mod Sizes
-- the whole
pub mod Costs
pub mod Walks
