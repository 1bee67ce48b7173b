pub mod CallLemmas
pub mod ListLemmas
pub mod NameLemmas
pub mod PinLemmas
pub mod RetainedLemmas
