mod Common
pub mod Leasts
pub mod Vias
pub mod Departures
pub mod Departing
pub mod Best
pub mod Exits
pub mod Minima
pub mod Entries
pub mod Written
pub mod ReadRows
pub mod ReadBack
pub mod Deadlines
pub mod ReadOnce
