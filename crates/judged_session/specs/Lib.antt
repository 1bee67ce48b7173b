pub mod JudgedTurns
pub use Rattle.report_replay.specs.alike_law as alike_law
pub use Rattle.report_replay.specs.legal_history as legal_history
pub use Rattle.report_replay.specs.report_compare as report_compare
pub use Rattle.report_replay.specs.text_law as text_law
