pub mod Layout
pub mod View
pub mod Head
pub mod Writing
pub mod Look
