mod Common
pub mod BestStrategies
pub mod AtOnce
pub mod Tables
pub mod Deadlines
pub mod Means
mod LeastChances
