pub mod Places
pub mod Last
