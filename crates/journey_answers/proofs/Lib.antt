mod Common
pub mod Sought
pub mod Bounds
pub mod Departing
pub mod Ruled
pub mod SameReach
pub mod Unsafe
pub mod GraphFiles
