pub mod SameMessages
pub mod Quorum
pub mod Readings
pub mod Values
pub mod IndexLaws
pub mod Promised
