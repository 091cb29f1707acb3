mod Common
pub mod Pairs
pub mod Lines
