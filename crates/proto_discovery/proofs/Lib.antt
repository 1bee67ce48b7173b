pub mod NameLemmas
pub mod ShortLemmas
