pub mod NextTurns
pub use Rattle.report_compare.specs.front_law as front_law
pub use Rattle.report_compare.specs.legal_history as legal_history
pub use Rattle.report_compare.specs as report_compare
pub use Rattle.report_compare.specs.report_writer as report_writer
pub use Rattle.report_compare.specs.text_law as text_law
pub use Rattle.turn_steps.specs as turn_steps
