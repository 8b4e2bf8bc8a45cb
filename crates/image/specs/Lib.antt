pub mod Saving
pub mod Loading
