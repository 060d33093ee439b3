-- noise_curve
pub mod Stretches
-- the whole
pub mod Bands
