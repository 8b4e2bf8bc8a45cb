pub mod Judging
pub mod ClosedLot
pub mod Answers
