-- header
pub mod WriteHeader
pub mod ReadHeader
-- lists
pub mod Lists
-- wavs
pub mod ReadWav
