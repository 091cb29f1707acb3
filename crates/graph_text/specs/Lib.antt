pub mod Versions
pub mod GraphTexts
pub mod Printable
pub mod Reading
pub mod GraphRows
pub mod Asked
pub mod FaultTexts
pub mod FirstFaults
