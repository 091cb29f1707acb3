pub mod Answers
pub mod Punctual
pub mod Departures
pub mod Reach
pub mod Trips
pub mod Scores
pub mod Certified
