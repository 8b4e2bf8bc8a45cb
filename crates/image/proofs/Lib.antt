pub mod Writing
pub mod Saved
pub mod Putting
pub mod Loaded
