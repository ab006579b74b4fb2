pub mod Blanks
pub mod Pieces
