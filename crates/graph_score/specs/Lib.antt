pub mod Legs
pub mod Scores
pub mod Steps
