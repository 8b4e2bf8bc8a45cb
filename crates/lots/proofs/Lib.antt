pub mod Parts
pub mod Lowest
pub mod Looks
pub mod Named
