pub mod PlayedBack
pub mod Led
