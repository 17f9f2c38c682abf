-- what a reader of the contracts believes: the state of a run, its steps, what is refused, and what each call returns
pub mod State
pub mod InputsTaken
pub mod Step
pub mod Mail
pub mod Machines
pub mod Refusals
pub mod Decisions
pub mod EventRefs
pub mod OwnSteps
pub mod Undo
pub mod RunView
pub mod Runs
pub mod Rules
pub mod ByRules
pub mod Auto
pub mod Views
-- the past of an event, by flags
pub mod Flags
-- the laws: what the rules keep, agreement and validity
pub mod Lawful
pub mod Agreement
