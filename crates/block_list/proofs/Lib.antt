pub mod BlockLemmas
