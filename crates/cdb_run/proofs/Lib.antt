-- what a state shows of the history that reached it
pub mod Told
-- what is held of a run: at the start, before and after an event, and what it shows
pub mod Held
pub mod Records
pub mod Steps
pub mod Views
-- which events are found
pub mod Causes
pub mod Found
pub mod RollingBack
-- whether two runs are in one state
pub mod OwnSteps
pub mod SameRuns
