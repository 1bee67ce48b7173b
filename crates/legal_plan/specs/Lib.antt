pub mod PlanLegality
pub use Rattle.legal_history.specs as legal_history
pub use Rattle.session_plan.specs as session_plan
pub use Rattle.legal_history.specs.xds_history as xds_history
