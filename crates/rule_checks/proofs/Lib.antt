pub mod Walks
pub mod Marks
pub mod Empties
pub mod Lists
pub mod Afters
