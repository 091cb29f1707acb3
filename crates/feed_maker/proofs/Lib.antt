mod Common
pub mod JoinedLemmas
pub mod FolderLemmas
pub mod StopTimeLemmas
