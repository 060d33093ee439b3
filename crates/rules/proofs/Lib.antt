-- laws that code and theorems cite
pub mod Layouts
pub mod Cuts
pub mod LentRows
pub mod Signs
pub mod Levels
pub mod Boundaries
pub mod Limits
pub mod Modes
pub mod Bands
pub mod Legality
pub mod Made
-- which refusals there are, and what each leaves
pub mod Answers
pub mod Refused
-- worked numbers
pub mod Words
pub mod Rows
pub mod Examples
