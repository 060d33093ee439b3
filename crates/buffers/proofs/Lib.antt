-- The laws by which a loop that counts up uses the walks of `specs/Walk.antt`. Every crate above cites them.
pub mod Tests
pub mod Scan
pub mod Build
pub mod Blocks
pub mod Every
pub mod Most
