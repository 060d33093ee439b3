pub mod RoundTrips
pub mod HeaderCalls
