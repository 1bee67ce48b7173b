mod HalvesLemmas
pub mod PlaceLemmas
mod SearchLemmas
