-- states that histories reach, and the numbers of steps and sends
pub mod Numbered
-- the leader-based algorithm
pub mod LeaderHistories
-- Alpha
pub mod AlphaSteps
pub mod AlphaRuns
pub mod AlphaHistories
-- what is decided was proposed; the rules of every run; and worked runs
pub mod Reached
pub mod Lawful
pub mod Worked
