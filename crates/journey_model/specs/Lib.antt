pub mod Sites
pub mod Known
pub mod FaultLines
pub mod Faults
