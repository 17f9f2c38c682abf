-- what a contract names: which message a value comes from, and what a step did, by machine
pub mod Numbers
pub mod LeaderDeeds
pub mod AlphaDeeds
pub mod Deeds
pub mod Laws
