pub mod Distances
pub mod Sequences
