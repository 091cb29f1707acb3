pub mod Options
pub mod FaultTexts
pub mod Settings
pub mod Uses
pub mod Values
pub mod Jobs
pub mod Shown
