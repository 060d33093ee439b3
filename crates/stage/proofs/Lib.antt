-- run
mod Wiped
mod Prepared
mod Ends
-- the call
pub mod Gated
-- parts
pub mod Wholes
