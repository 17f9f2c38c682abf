-- what a contract names
pub mod Names
pub mod Mail
-- what the code keeps for itself: codes of the views, and how it finds a pending copy quickly
pub mod Codes
pub mod Flags
pub mod Passed
pub mod Search
