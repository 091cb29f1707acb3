mod Common
pub mod FrequencyLemmas
pub mod RepeatLemmas
