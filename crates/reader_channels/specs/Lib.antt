-- values
pub mod Values
pub mod Steps
-- level_and_boundary
pub mod Started
-- the whole
pub mod Answers
pub mod Headed
pub mod StoredRow
