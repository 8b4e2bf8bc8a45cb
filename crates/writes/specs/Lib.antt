pub mod Sections
pub mod Fresh
pub mod RecordSet
