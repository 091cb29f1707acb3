pub mod GraphValues
pub mod Planned
pub mod LeastChances
