pub mod MixedRows
pub mod StereoLaws
