pub mod TellLemmas
pub mod PrefixLemmas
pub use Rattle.book_hearing.proofs.book_streams as book_streams
