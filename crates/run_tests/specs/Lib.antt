-- short journals, whose replies a test says
pub mod WorkedJournals
