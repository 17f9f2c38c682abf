-- what the public contracts name
pub mod Asked
pub mod Flagged
pub mod DeedTexts
pub mod Explanations
pub mod Rounds
pub mod RunLeft
pub mod TextFaults
pub mod Endings
pub mod FaultTexts
-- what the code keeps for itself
pub mod Replays
