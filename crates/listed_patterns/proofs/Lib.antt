mod BeginLemmas
mod EscapeLemmas
mod LineLemmas
pub mod ListedProofs
mod ListedRows
mod ListingLemmas
