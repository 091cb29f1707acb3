pub mod MoreTrips
pub mod NewTrip
pub mod MoreFiles
