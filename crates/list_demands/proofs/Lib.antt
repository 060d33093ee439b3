pub mod StageEntries
pub mod SameHead
pub mod Agreement
pub mod StereoAgreement
pub mod OverAgreement
pub mod LineAgreement
pub mod StereoLineAgreement
