pub mod Memory
pub mod Looks
