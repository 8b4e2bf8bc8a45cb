pub mod Written
pub mod Ordered
pub mod Installing
pub mod Groups
pub mod ToModel
