pub mod Left
pub mod Rewritten
