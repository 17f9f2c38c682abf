pub mod Cut
pub mod Entries
pub mod Numbers
pub mod Whole
pub mod Written
