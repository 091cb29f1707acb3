mod Common
pub mod FeedLemmas
pub mod FeedFacts
pub mod RepeatFacts
