pub mod LegalProofs
pub mod Rows
pub mod NotLegal
pub use Rattle.xds_history.proofs as xds_history
