mod Types
pub mod Lists
pub mod Within
pub mod Runs
pub mod Networks
pub mod Inserted
pub mod Rows
pub mod StopTimes
pub mod Repeats
pub mod Tables
pub mod Folders
pub mod Problems
