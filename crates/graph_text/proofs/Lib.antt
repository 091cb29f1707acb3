mod Common
pub mod Fields
pub mod Laws
pub mod Rows
pub mod Tables
pub mod Accepted
pub mod ReadBack
pub mod Faults
mod Leaving
