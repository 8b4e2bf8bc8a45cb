pub mod Fields
pub mod Order
pub mod Section
