mod GeneratedLemmas
mod PartLemmas
