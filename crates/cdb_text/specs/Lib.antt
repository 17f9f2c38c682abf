-- what a contract names: the grammar of lines, their words, and their faults
pub mod Commands
pub mod Grammar
pub mod Faults
pub mod LineFaults
pub mod Words
pub mod Numbers
pub mod Entries
pub mod Laws
-- and the texts of replies
pub mod Events
pub mod Reports
pub mod Texts
pub mod Pushes
-- what the code keeps for itself: how words are read one after the other
pub mod Readers
pub mod Verbs
pub mod Lines
