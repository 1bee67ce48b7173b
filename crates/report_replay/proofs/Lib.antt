pub mod FoundLemmas
pub mod SweepLemmas
pub mod DueLemmas
pub mod PlayLemmas
pub mod BeginLemmas
pub mod AnyLemmas
pub use Rattle.alike_law.proofs as alike_law
pub use Rattle.completion_law.proofs as completion_law
pub use Rattle.replay_law.proofs.entry_law as entry_law
pub use Rattle.replay_steps.proofs.front_law as front_law
pub use Rattle.completion_law.proofs.planned_calls as planned_calls
pub use Rattle.turn_player.proofs.session_player as session_player
pub use Rattle.alike_law.proofs.turn_law as turn_law
