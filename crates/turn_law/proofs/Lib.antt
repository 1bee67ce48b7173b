pub mod FeedLemmas
pub mod AddressLemmas
pub mod SpelledLines
pub mod SpelledSession
pub mod PlayedTurns
pub mod LineLemmas
pub mod ReadyLemmas
pub mod FoundLemmas
pub mod LaterLemmas
pub mod ListedLemmas
pub mod InTurnProofs
mod TurnProofs
pub use Rattle.text_law.proofs as text_law
pub use Rattle.text_law.proofs.xds_history as xds_history
