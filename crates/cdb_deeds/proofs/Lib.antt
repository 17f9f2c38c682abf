pub mod Numbers
pub mod NamedDeeds
pub mod ReceivedDeeds
