-- what the public contracts name
pub mod Journals
pub mod SeatReplies
pub mod Replays
pub mod OpenedFrom
pub mod Laws
