-- what a contract names
pub mod CommandLine
pub mod Plain
pub mod RequestsOfRows
