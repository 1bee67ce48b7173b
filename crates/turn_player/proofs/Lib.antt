mod TurnLemmas
mod SeatLemmas
pub mod PlaceLemmas
mod PlayLemmas
pub mod LaneLemmas
pub use Rattle.session_player.proofs as session_player
