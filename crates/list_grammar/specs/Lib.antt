pub mod Trees
pub mod DeepLists
