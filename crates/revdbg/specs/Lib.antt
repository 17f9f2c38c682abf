-- ---- what the public contracts name
pub mod Requested
pub mod System
-- ---- what the code keeps for itself
pub mod ActionFor
