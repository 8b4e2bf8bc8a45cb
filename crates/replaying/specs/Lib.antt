pub mod Replaying
pub mod Steps
pub mod Runs
