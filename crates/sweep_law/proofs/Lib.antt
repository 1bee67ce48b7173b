pub mod ListLemmas
pub mod SweepProofs
pub mod LastProofs
pub use Rattle.next_law.proofs.legal_plan as legal_plan
pub use Rattle.next_law.proofs as next_law
