pub mod Feeds
pub mod Parts
pub mod FeedInside
pub mod Timed
