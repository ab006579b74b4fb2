pub mod Boundaries
pub mod Chains
pub mod Cuts
pub mod Documents
pub mod Edits
pub mod Grows
pub mod Recuts
pub mod Refusals
