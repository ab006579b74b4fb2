pub mod SqlTrees
pub mod SqlErrors
pub mod TreeFindings
pub mod Printed
