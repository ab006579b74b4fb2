pub mod Watched
pub mod Reads
pub mod Writes
pub mod Lines
pub mod Fault
pub mod Answers
pub mod AnswerLines
pub mod Runs
