mod Common
pub mod JoinLemmas
pub mod StepLemmas
pub mod OrderLemmas
pub mod CountLemmas
pub mod SumLemmas
pub mod DateLemmas
pub mod NameLemmas
pub mod RunLemmas
pub mod ConnectionLemmas
pub mod ReachLemmas
pub mod RepeatLemmas
