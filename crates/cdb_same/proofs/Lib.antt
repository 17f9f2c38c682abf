-- which events have come, and which stand before which
pub mod Ranks
pub mod Counted
pub mod StandingSteps
pub mod Before
pub mod Behind
pub mod Apart
-- what two scripts leave
pub mod Left
