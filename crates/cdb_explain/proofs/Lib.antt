pub mod Flags
pub mod SameCauses
pub mod Along
pub mod CarriedOut
