mod Common
pub mod FaultLemmas
pub mod FirstLemmas
pub mod FormLemmas
pub mod IdLemmas
pub mod KeyLemmas
pub mod KeyTexts
pub mod ListLemmas
pub mod NameLemmas
pub mod PartsLemmas
pub mod HeaderLemmas
pub mod ReachedRecords
pub mod RowLemmas
pub mod SoonestLemmas
pub mod SortLemmas
pub mod SpaceLemmas
pub mod TableLemmas
