mod Common
pub mod FailingLemmas
pub mod Silent
