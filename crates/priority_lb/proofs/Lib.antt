pub mod ChildLemmas
pub mod EndLemmas
pub mod HistoryLemmas
pub mod WalkLemmas
