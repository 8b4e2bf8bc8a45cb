pub mod Packing
pub mod Bytes
pub mod Crossing
pub mod Closing
pub mod Rows
pub mod Determined
