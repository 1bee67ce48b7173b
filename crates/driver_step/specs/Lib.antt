pub mod DriverSteps
pub mod SettledKeys
pub use Rattle.book_fates.specs as book_fates
pub use Rattle.book_streams.specs as book_streams
