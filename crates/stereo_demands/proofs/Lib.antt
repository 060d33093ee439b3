-- magnitudes up to a bound, of sums, quotients and mixed values
pub mod PutBack
pub mod UpTo
pub mod Ratio
pub mod Quiet
pub mod MixedFinite
pub mod MixedJudged
pub mod MixedKept
-- the demands said of the stereo stage
pub mod StereoIsStage
pub mod StereoAnswers
pub mod StereoCalls
pub mod StereoExactly
pub mod StereoKept
pub mod StereoFinest
pub mod WorkedStereo
