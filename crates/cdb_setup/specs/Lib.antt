-- what a contract names
pub mod Parts
pub mod Seen
pub mod Format
pub mod Faults
pub mod Order
pub mod Numbers
pub mod Equal
-- what the code keeps for itself: the parts as they are read in turn, and tests that compute
pub mod Readings
