pub mod ReadingLemmas
pub mod HeardLemmas
pub use Rattle.book_streams.proofs as book_streams
