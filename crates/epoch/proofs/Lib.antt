pub mod Bits
pub mod Listing
pub mod Closing
