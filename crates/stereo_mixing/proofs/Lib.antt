-- subframe
pub mod Searches
-- pair
pub mod Turns
-- the whole
pub mod Steps
