pub mod Sets
pub mod TakenBack
pub mod RisingNumbers
pub mod Least
pub mod MailFlags
pub mod Stretches
