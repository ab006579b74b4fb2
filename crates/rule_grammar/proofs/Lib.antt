pub mod Counted
pub mod Derived
pub mod Files
pub mod Operators
pub mod Roots
