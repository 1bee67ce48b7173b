pub mod EndedPlans
pub use Rattle.xds_book.specs.book_driver as book_driver
pub use Rattle.xds_book.specs.book_fates as book_fates
pub use Rattle.xds_book.specs.book_hearing as book_hearing
pub use Rattle.xds_book.specs as xds_book
