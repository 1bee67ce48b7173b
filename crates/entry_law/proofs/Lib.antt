pub mod StepProofs
pub mod EntryProofs
pub use Rattle.next_law.proofs as next_law
pub use Rattle.next_law.proofs.xds_history as xds_history
