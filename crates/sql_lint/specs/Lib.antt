pub mod Kinds
pub mod Rows
pub mod Nodes
pub mod AlterTable
pub mod ColumnTypes
pub mod Rules
pub mod Linted
