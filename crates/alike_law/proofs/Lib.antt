mod WholeTexts
mod FirstLineLemmas
pub mod PartingProofs
mod EntryTexts
pub mod FirstEntryProofs
pub use Rattle.turn_law.proofs as turn_law
