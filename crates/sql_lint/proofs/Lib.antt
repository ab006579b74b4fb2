pub mod Findings
pub mod FirstOf
