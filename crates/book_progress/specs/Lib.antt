pub mod ActorCounts
pub mod EndedLines
pub mod PlayedPlans
pub mod ProgressKept
