mod Common
pub mod Trees
pub mod Found
pub mod Changes
pub mod Compose
pub mod Upper
