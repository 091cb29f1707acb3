mod Common
pub mod Found
pub mod Plain
pub mod Printed
pub mod Lines
pub mod Chains
pub mod Names
pub mod Connections
