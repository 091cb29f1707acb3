pub mod FrequencyBounds
pub mod Frequencies
pub mod Repeats
