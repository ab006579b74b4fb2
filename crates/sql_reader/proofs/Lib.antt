pub mod Faults
pub mod Windows
