-- ---- what the public contracts name
pub mod Openings
pub mod SeatParts
pub mod SharedSessions
pub mod KeptOutcomes
pub mod KeptAlone
pub mod Reports
pub mod Reported
pub mod Faults
-- ---- what the code keeps for itself
pub mod Promises
pub mod Replicas
