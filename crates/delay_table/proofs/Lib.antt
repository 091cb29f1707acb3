mod Common
pub mod LineFacts
pub mod GroupFacts
pub mod RouteFacts
pub mod NumberedFacts
pub mod IndexFacts
pub mod LineGroups
pub mod ReadFacts
pub mod Starts
pub mod Others
pub mod NamedTypes
pub mod PlainTypes
pub mod Sound
pub mod Counted
pub mod TypeFacts
pub mod ClassBounds
