pub mod Added
pub mod PiecesPut
pub mod CutLines
pub mod LinesRead
pub mod StreamEnds
