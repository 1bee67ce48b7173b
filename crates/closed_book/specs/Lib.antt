pub mod ReadyBooks
pub use Rattle.channel_plan.specs.channel_calls as channel_calls
pub use Rattle.channel_plan.specs.legal_history as legal_history
pub use Rattle.channel_plan.specs.session_player as session_player
pub use Rattle.channel_plan.specs.xds_book as xds_book
