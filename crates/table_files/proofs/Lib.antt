pub mod LoadLemmas
pub mod ReadSteps
pub mod ReadingLemmas
