pub mod Fields
pub mod Writers
