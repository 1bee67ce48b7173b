pub mod ChangeLemmas
pub mod MarkLemmas
pub mod ServedLemmas
pub mod WatcherLemmas
pub mod InPlaceLemmas
pub mod RenewalLemmas
pub mod SubscribedLemmas
pub mod PublishedLemmas
pub mod SteppedLemmas
pub mod StillLemmas
pub mod EntryLemmas
pub use Rattle.book_hearing.proofs.book_streams as book_streams
pub use Rattle.book_trees.proofs as book_trees
