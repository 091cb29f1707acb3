pub mod Embeds
pub mod Changed
