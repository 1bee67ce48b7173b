pub mod ReplyLaw
pub use Rattle.xds_history.specs as xds_history
