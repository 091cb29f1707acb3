pub mod Counts
pub mod Ports
pub mod Loading
pub mod Named
pub mod Steady
