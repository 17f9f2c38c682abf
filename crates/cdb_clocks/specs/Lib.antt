-- what a reader of the contracts believes
pub mod Clocks
pub mod Texts
-- what the code keeps for itself
pub mod Rows
