pub mod ChannelFaults
pub mod ChannelPlans
pub mod LockedBooks
pub use Rattle.lane_checks.specs.book_driver as book_driver
pub use Rattle.lane_checks.specs.book_fates as book_fates
pub use Rattle.lane_checks.specs as lane_checks
pub use Rattle.planned_calls.specs as planned_calls
pub use Rattle.lane_checks.specs.xds_book as xds_book
pub use Rattle.planned_calls.specs.xds_history as xds_history
