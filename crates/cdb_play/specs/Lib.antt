-- ---- what the public contracts name
pub mod Transcripts
pub mod Races
