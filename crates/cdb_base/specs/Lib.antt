-- what a reader of the contracts believes: names of events, lists that count from 1, registers, requests, results, and
-- the refusals of commands, of memory and of a thread
pub mod Event
pub mod Limits
pub mod NameTexts
pub mod Positions
pub mod Processes
pub mod Refusal
pub mod Registers
pub mod Requests
pub mod Results
pub mod Memory
pub mod Start
