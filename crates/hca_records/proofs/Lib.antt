-- write
pub mod WriteStores
pub mod WriteBounds
-- read
pub mod ReadStores
pub mod ReadBounds
