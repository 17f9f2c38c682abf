pub mod Padded
pub mod Lines
pub mod Again
pub mod Read
pub mod RepliesToSeats
pub mod CarriedOut
pub mod NewsLines
