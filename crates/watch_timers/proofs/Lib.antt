pub mod DueLemmas
pub mod OrderLemmas
pub mod RunLemmas
pub mod StartLemmas
