mod Common
pub mod Looks
pub mod Growth
pub mod GateLists
pub mod Sources
pub mod Latest
pub mod ReachGrowth
pub mod EachRow
pub mod SameGates
