pub mod ReplayLaw
pub use Rattle.listed_events.specs as listed_events
