-- the rules of mixing, and the whole call
pub mod Mixed
pub mod Stereo
