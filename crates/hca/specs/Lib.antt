pub mod Version
