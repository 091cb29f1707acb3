pub mod ListBounds
pub mod Stops
pub mod Routes
pub mod Trips
pub mod Lists
