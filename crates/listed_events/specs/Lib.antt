pub mod ListedEvents
pub use Rattle.book_hearing.specs as book_hearing
pub use Rattle.listed_patterns.specs as listed_patterns
