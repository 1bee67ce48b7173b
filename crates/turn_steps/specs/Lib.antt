pub mod MadeSteps
pub use Rattle.listed_events.specs.book_hearing as book_hearing
pub use Rattle.channel_calls.specs as channel_calls
pub use Rattle.listed_events.specs as listed_events
pub use Rattle.channel_calls.specs.planned_calls as planned_calls
pub use Rattle.channel_calls.specs.xds_history as xds_history
