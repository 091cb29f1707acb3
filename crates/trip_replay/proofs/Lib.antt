mod Common
pub mod Walks
pub mod Arrivals
pub mod Onwards
