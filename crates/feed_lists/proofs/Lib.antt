mod Common
pub mod StopLemmas
pub mod RouteLemmas
pub mod TripLemmas
