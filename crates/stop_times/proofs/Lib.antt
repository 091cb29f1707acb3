mod Common
pub mod RecordLemmas
pub mod TimeLemmas
pub mod BackLemmas
pub mod RisingRows
pub mod VisitLemmas
pub mod RowForms
pub mod Beside
pub mod NoFault
