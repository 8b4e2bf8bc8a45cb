pub mod Calls
pub mod Delivering
pub mod Closing
pub mod Saving
pub mod Loading
pub mod Determined
pub mod Isolated
pub mod RoundTrips
