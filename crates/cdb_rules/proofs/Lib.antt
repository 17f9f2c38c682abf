-- lists, and what stands at their positions
pub mod Positions
pub mod Alls
pub mod ListMembers
-- an event that is taken, and what it keeps and changes
pub mod Taken
pub mod WorkedSteps
-- what is refused, and what is enabled
pub mod Granted
-- valid histories: their states, the order of their events, numbers and names
pub mod FoldKeeps
pub mod Histories
pub mod Members
pub mod ValidHistories
-- an event is found, undone and rolled back
pub mod Undo
pub mod OfRun
-- what stands in a run, and the past of an event
pub mod Beginnings
pub mod Flagged
