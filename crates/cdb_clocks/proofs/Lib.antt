-- which steps have led to an event, by those that have led to its direct causes
pub mod Led
pub mod Raised
pub mod Next
pub mod WrittenClocks
pub mod Counts
-- the text
pub mod Lines
