-- ---- what the public contracts name
pub mod Limits
pub mod Pieces
pub mod Layout
pub mod Positions
pub mod Lanes
pub mod Ways
pub mod Apart
pub mod Weights
pub mod Arrows
pub mod EventMarks
pub mod Picture
pub mod Drawn
pub mod Frames
-- ---- what the code keeps for itself
pub mod Sends
