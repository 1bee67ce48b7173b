pub mod StartLemmas
pub mod LegalityProofs
pub use Rattle.session_plan.proofs as session_plan
pub use Rattle.legal_history.proofs.xds_history as xds_history
