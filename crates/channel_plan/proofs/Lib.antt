pub mod CallerStarts
pub mod GateProofs
pub mod LineGates
pub mod PlanEvents
pub mod PlanProofs
pub mod PlanRoom
pub use Rattle.session_player.proofs as session_player
