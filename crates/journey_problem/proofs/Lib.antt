mod Common
pub mod Causes
pub mod Loads
pub mod TableSteps
pub mod FeedSteps
pub mod OneOrder
pub mod OneCutNetwork
pub mod SameProblem
pub mod OneCutProblem
pub mod OneFeed
pub mod OneWindow
pub mod OneFeedProblem
pub mod OneProblem
pub mod NoFaults
pub mod SameFiles
pub mod CutSteps
