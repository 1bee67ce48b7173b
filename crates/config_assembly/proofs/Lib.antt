pub mod LawfulLemmas
pub mod Members
pub mod OrderLemmas
pub mod ReachLemmas
pub mod SortedLists
pub mod TableLemmas
pub mod WatchLemmas
