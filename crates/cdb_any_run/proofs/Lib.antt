pub mod Named
pub mod OpenCopies
pub mod Views
