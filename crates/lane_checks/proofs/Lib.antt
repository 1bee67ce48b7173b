pub mod EndedCounts
pub use Rattle.xds_book.proofs.book_calls as book_calls
pub use Rattle.xds_book.proofs.book_driver as book_driver
pub use Rattle.xds_book.proofs.book_picks as book_picks
pub use Rattle.xds_book.proofs.book_streams as book_streams
pub use Rattle.xds_book.proofs.book_trees as book_trees
