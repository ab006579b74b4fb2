pub mod EditErrors
pub mod Held
pub mod Pieces
pub mod Recuts
