pub mod TurnSteps
pub use Rattle.listed_events.proofs.book_streams as book_streams
pub use Rattle.channel_calls.proofs.planned_calls as planned_calls
