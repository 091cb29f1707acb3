mod Common
pub mod Searches
pub mod Finds
pub mod Picked
pub mod Sets
pub mod Orders
pub mod Places
pub mod Tables
pub mod Together
pub mod Reaching
pub mod Rides
pub mod Walks
pub mod Graphs
pub mod RisingTables
