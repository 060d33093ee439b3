-- noise_curve
pub mod Stretched
-- the whole
pub mod Coded
