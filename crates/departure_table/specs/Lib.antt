pub mod Departures
pub mod Looked
pub mod Reach
