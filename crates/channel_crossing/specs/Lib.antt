pub use Rattle.channel_calls.specs as channel_calls
pub use Rattle.channel_calls.specs.xds_history as xds_history
