mod Common
pub mod NumberFacts
pub mod Distinct
pub mod Repeats
pub mod Misfits
pub mod ChangeFacts
pub mod FormFacts
pub mod Occurs
pub mod Valid
pub mod Made
