pub mod Groups
pub mod DelayLists
pub mod FaultTexts
pub mod Delays
pub mod DelayColumns
pub mod Numbered
pub mod Read
pub mod Slots
