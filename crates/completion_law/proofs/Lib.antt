pub mod LineItems
pub mod PlayedItems
pub mod PlanWalk
pub mod SweepNext
pub mod PlayedBefore
pub mod OpenGates
pub mod CompletionProofs
pub use Rattle.sweep_law.proofs.next_law as next_law
pub use Rattle.planned_calls.proofs as planned_calls
pub use Rattle.sweep_law.proofs as sweep_law
