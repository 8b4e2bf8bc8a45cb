pub mod Parts
pub mod Changes
pub mod RecordSet
pub mod Fresh
pub mod Overwriting
