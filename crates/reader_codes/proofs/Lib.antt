-- lookup
pub mod Entries
-- one_code
pub mod Ahead
pub mod CodeAnswers
-- the whole
pub mod Padding
pub mod CodeChannels
pub mod Eight
pub mod Resolved
