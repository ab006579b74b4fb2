pub mod Accepted
pub mod Meaning
pub mod Events
pub mod LeavesOne
pub mod Slots
pub mod ErrorLines
