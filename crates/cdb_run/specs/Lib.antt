-- what a reader of the contracts believes: what a run records of an event, the way back, and the event of a name
pub mod Back
pub mod Recorded
pub mod Found
-- what the code keeps for itself: the plan of a step, and what it changes
pub mod Plans
pub mod Alike
pub mod Stepped
pub mod Current
pub mod Proper
