-- ---- what the public contracts name
pub mod Streams
pub mod Lines
pub mod Scripts
pub mod Faults
pub mod FaultTexts
pub mod Statuses
pub mod Endings
pub mod Written
pub mod Buffers
pub mod PiecesPut
-- ---- what the code keeps for itself
pub mod Pieces
