pub mod Writing
pub mod Survivors
