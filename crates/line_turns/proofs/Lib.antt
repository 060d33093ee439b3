pub mod Placed
pub mod Counts
pub mod Going
pub mod Entries
