mod Common
pub mod Limits
pub mod Sources
pub mod Pruned
