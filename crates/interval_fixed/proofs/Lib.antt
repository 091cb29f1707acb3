pub mod Enclosed
pub mod Sums
