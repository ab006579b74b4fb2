pub mod Trimmed
pub mod Formatted
