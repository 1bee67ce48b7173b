pub mod BookViews
pub mod BookEntries
pub mod BookKept
pub mod ReferencesKept
pub mod PinSteps
pub mod Publishing
pub use Rattle.book_driver.specs as book_driver
pub use Rattle.book_driver.specs.book_fates as book_fates
pub use Rattle.book_driver.specs.book_hearing as book_hearing
pub use Rattle.book_calls.specs.xds_history as xds_history
