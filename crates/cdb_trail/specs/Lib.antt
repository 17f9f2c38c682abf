-- what a reader of the contracts believes: where a value lies and how a step moves it, by machine, and trails
pub mod Flow
pub mod LeaderFlow
pub mod AlphaFlow
pub mod Trails
pub mod Trailed
pub mod Oracle
pub mod Texts
pub mod Origins
-- what the code keeps for itself
pub mod Played
