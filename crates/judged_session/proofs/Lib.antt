pub mod SessionPlans
pub mod JudgeLemmas
pub mod PlayedLemmas
pub mod PlayedOutLemmas
pub mod WrongLines
