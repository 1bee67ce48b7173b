pub mod CompletionLaw
pub use Rattle.planned_calls.specs as planned_calls
pub use Rattle.sweep_law.specs as sweep_law
pub use Rattle.reply_law.specs.xds_history as xds_history
