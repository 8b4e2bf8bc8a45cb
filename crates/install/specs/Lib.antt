pub mod Writes
pub mod Order
pub mod Pieces
pub mod Stream
