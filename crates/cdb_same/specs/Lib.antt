-- what a reader of the contracts believes
pub mod Comparisons
pub mod Texts
pub mod Same
-- what the code keeps for itself
pub mod Come
