pub mod EndedPlays
pub mod ReadyProofs
pub use Rattle.channel_plan.proofs as channel_plan
pub use Rattle.sweep_law.proofs.next_law as next_law
pub use Rattle.channel_plan.proofs.session_player as session_player
pub use Rattle.sweep_law.proofs as sweep_law
