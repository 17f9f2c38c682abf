-- ---- what the public contracts name
pub mod Moves
pub mod Topics
pub mod Typed
pub mod FaultyLines
pub mod Due
pub mod Inquiries
pub mod Repeats
pub mod Exchanges
pub mod Requests
pub mod Styles
pub mod Dialogues
pub mod Greetings
pub mod Parts
pub mod News
pub mod Replies
pub mod Answers
pub mod Sessions
pub mod Alone
pub mod Served
pub mod Debugs
pub mod Laws
-- ---- what the code keeps for itself
pub mod TypedWords
pub mod RequestWords
pub mod Lines
pub mod Unfinished
