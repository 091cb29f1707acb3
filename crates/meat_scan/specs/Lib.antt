pub mod Step
pub mod ScanResult
pub mod Rules
pub mod Solves
pub mod ScanTables
