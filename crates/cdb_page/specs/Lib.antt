-- what a reader of the contracts believes
pub mod Listed
pub mod Entries
pub mod Pages
pub mod OfJournals
pub mod Live
pub mod Followed
