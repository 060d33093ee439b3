-- readers put together, and the turns of a walk
pub mod Formats
pub mod Numbers
pub mod Turns
-- what a walk has written
pub mod Written
-- the prefix code, the codes and the deltas
pub mod Prefix
pub mod Codes
pub mod Deltas
