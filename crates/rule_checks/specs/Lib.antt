pub mod Sets
pub mod Rows
pub mod Empty
pub mod Leads
pub mod Steps
pub mod Rules
