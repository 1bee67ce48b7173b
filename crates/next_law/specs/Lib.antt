pub mod NextLaw
pub use Rattle.legal_plan.specs.legal_history as legal_history
pub use Rattle.legal_plan.specs.xds_history as xds_history
