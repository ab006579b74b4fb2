pub mod PrintedFiles
pub mod WholeTrees
