mod Common
pub mod KeyLemmas
pub mod Numbers
