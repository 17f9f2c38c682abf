-- what a reader of the contracts believes
pub mod Found
pub mod Shrunk
-- what the code keeps for itself
pub mod Passes
