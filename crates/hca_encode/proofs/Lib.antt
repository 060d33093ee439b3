-- frame
pub mod FrameStores
pub mod FrameBounds
-- stereo_frame
pub mod StereoStores
pub mod StereoBounds
-- line
pub mod LineBounds
pub mod LinePlaces
pub mod LineStores
