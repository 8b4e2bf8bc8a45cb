pub mod Orderly
pub mod Verdicts
