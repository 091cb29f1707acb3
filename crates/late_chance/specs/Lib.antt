pub mod LaterGraphs
pub mod Punctual
pub mod Chances
