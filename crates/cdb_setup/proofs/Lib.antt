pub mod Walk
pub mod Whole
pub mod InRange
