pub mod SentMessages
pub mod Pushed
pub mod KeptPlaces
pub mod EachEvent
pub mod FramesFound
