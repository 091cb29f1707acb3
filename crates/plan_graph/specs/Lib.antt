pub mod Unfold
pub mod Ready
pub mod Tidy
pub mod Coherent
pub mod RisingRides
pub mod Walked
