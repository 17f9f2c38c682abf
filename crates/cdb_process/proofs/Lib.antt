pub mod Members
pub mod Walk
pub mod Options
