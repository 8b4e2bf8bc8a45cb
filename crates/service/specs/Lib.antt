pub mod Packing
pub mod Crossing
pub mod Writing
