-- what is known of the world
pub mod Known
-- what a request does there
pub mod Outcomes
pub mod FilesRead
pub mod TextsOfRuns
pub mod TextsMade
pub mod Reports
pub mod Plays
pub mod Races
pub mod Questions
pub mod FrameFiles
pub mod Beginnings
pub mod Replays
pub mod Searches
pub mod Comparisons
pub mod Answers
pub mod SeatStreams
pub mod Keepings
pub mod Sessions
pub mod Requests
