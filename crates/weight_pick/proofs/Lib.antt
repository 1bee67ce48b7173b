pub mod WeightLemmas
