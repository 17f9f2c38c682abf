-- what a reader of the contracts believes
pub mod Scripts
pub mod Slices
