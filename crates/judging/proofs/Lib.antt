pub mod Parts
pub mod Records
pub mod Trailers
pub mod Sections
pub mod Passing
pub mod Examples
