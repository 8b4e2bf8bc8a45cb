pub mod Moves
pub mod Sections
pub mod Ends
pub mod Placed
pub mod Holding
