pub mod FieldLemmas
mod KeptLemmas
pub mod LineLemmas
mod SearchLemmas
mod TextLemmas
mod WordLemmas
