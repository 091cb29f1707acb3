mod Common
pub mod Asking
pub mod Outcomes
pub mod Undisturbed
pub mod Ended
pub mod Statuses
pub mod Runs
