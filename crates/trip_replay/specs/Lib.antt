pub mod FaultTexts
pub mod Walk
pub mod Rides
pub mod Late
pub mod Onward
