mod Common
pub mod ScanLemmas
pub mod StretchLemmas
pub mod StartLemmas
pub mod TournamentLemmas
pub mod SkipLemmas
