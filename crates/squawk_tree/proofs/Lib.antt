pub mod Texts
pub mod OpenLines
pub mod Standing
pub mod Closing
pub mod Forests
pub mod Written
