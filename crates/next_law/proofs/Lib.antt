pub mod CountLemmas
pub mod PlayLemmas
pub mod ListLemmas
pub mod GateLemmas
pub mod NextProofs
pub mod EndProofs
pub use Rattle.legal_plan.proofs as legal_plan
pub use Rattle.legal_plan.proofs.xds_history as xds_history
