pub mod StereoGates
