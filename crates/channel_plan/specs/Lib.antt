pub mod ChannelPlanLaws
pub use Rattle.channel_calls.specs as channel_calls
pub use Rattle.channel_calls.specs.lane_checks as lane_checks
pub use Rattle.session_player.specs.legal_history as legal_history
pub use Rattle.session_player.specs as session_player
pub use Rattle.session_player.specs.xds_book as xds_book
pub use Rattle.channel_calls.specs.xds_history as xds_history
