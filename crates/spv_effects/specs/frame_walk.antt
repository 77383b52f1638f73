pub mod Events
pub mod FrameWalk
