-- fill
pub mod Ones
pub mod Filled
-- record
pub mod Scans
