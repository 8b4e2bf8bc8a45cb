pub mod Printing
pub mod Pairs
pub mod Closes
pub mod Records
pub mod Steps
pub mod Ends
pub mod Runs
pub mod Same
