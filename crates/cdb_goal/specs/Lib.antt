-- what a reader of the contracts believes
pub mod Words
pub mod Holds
-- what the code keeps for itself
pub mod Tests
