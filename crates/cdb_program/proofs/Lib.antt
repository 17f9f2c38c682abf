pub mod Keepings
pub mod OpenedFiles
pub mod Seen
pub mod WrittenTexts
pub mod Raced
pub mod Reported
pub mod Seated
pub mod Framed
