pub mod Transfers
pub mod Links
pub mod Walks
pub mod Changes
pub mod TransfersSoFar
pub mod Inside
