-- averages
pub mod Taken
-- the whole
pub mod Side
