pub mod Requests
pub mod Turns
