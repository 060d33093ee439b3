-- how many samples, whose format, which level; which refusals and what they leave; worked files
pub mod Counts
pub mod Formats
pub mod Peaks
pub mod Takes
pub mod Outcomes
pub mod Worked
pub mod Orders
pub mod Exactly
