pub mod ListedLemmas
pub mod TextLemmas
