pub mod Bands
pub mod Probes
