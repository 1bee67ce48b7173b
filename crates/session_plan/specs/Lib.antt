pub mod ReadablePayloads
pub mod ComingFrames
pub mod PlanOfSession
pub mod PlayedEvents
pub mod PlanLaws
