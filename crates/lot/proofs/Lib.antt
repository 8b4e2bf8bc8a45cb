pub mod Lengths
pub mod Heads
pub mod Counters
pub mod Records
pub mod Shown
pub mod Views
pub mod Looked
