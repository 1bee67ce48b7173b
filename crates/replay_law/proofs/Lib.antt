pub mod PlayedNewest
pub mod AnsweredRefusals
pub mod ReplayProofs
pub use Rattle.entry_law.proofs as entry_law
pub use Rattle.listed_events.proofs as listed_events
