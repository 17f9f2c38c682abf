-- what a reader of the contracts believes
pub mod Causality
pub mod FailedChange
pub mod Dependence
pub mod DirectCauses
pub mod DirectDependents
pub mod Exchange
pub mod Laws
pub mod Names
pub mod Past
pub mod Paths
pub mod Reach
pub mod Rollback
pub mod StandingEvents
-- what the code keeps for itself: tests by effect, and steps in another order
pub mod Effects
pub mod Exchanges
