pub mod ByLast
pub mod Deciding
pub mod Backwards
pub mod FromSection
