pub mod ReplayedTurns
pub use Rattle.alike_law.specs as alike_law
pub use Rattle.completion_law.specs as completion_law
pub use Rattle.replay_steps.specs.front_law as front_law
pub use Rattle.replay_steps.specs.legal_history as legal_history
pub use Rattle.completion_law.specs.planned_calls as planned_calls
pub use Rattle.replay_steps.specs.report_compare as report_compare
pub use Rattle.replay_steps.specs.report_writer as report_writer
pub use Rattle.turn_player.specs.session_player as session_player
pub use Rattle.replay_steps.specs.text_law as text_law
pub use Rattle.alike_law.specs.turn_law as turn_law
pub use Rattle.turn_player.specs as turn_player
pub use Rattle.turn_player.specs.xds_book as xds_book
pub use Rattle.completion_law.specs.xds_history as xds_history
