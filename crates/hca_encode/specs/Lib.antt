-- frame
pub mod EncodeFrame
-- stereo_frame
pub mod EncodeStereoFrame
-- line, stereo_line
pub mod EncodeLine
