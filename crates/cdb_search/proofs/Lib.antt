pub mod Scripts
pub mod Sublists
pub mod Spared
