pub mod Ends
pub mod Asks
pub mod Samples
pub mod Refusals
pub mod Received
pub mod Completeness
pub mod RunPromises
