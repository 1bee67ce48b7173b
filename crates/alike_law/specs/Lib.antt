pub mod AlikeTexts
pub mod FirstEntries
pub use Rattle.listed_patterns.specs as listed_patterns
pub use Rattle.turn_law.specs as turn_law
