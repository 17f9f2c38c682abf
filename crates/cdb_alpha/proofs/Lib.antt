pub mod Reached
pub mod Promised
