pub mod OneTree
pub mod ClosedTrees
mod GrownTrees
pub mod SplitCounts
