pub mod Judging
pub mod Writing
pub mod TakenEntry
pub mod Answers
