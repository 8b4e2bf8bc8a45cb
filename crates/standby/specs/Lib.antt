pub mod Calls
pub mod Closing
pub mod Images
pub mod Loading
pub mod RoundTrips
