mod Common
pub mod LaterGraphs
pub mod SeenFrom
pub mod Rounded
pub mod Punctual
pub mod Shifts
