pub mod FairClusters
pub mod GapLemmas
pub mod LawLemmas
pub mod OnceLemmas
pub mod OrderLemmas
pub mod TestLemmas
pub mod WeightLemmas
