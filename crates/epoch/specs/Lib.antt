pub mod Missing
pub mod Closed
