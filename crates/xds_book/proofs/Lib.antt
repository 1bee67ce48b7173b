pub mod FinishLemmas
pub mod KeptReferences
pub mod MakeLemmas
pub mod LaneLemmas
pub mod CallStepLemmas
pub mod BeginLemmas
pub mod TextListLemmas
pub mod KeptPicks
pub mod DriveLemmas
pub mod DrivenBook
pub use Rattle.book_calls.proofs as book_calls
pub use Rattle.book_driver.proofs as book_driver
pub use Rattle.book_picks.proofs as book_picks
pub use Rattle.book_driver.proofs.book_streams as book_streams
pub use Rattle.book_driver.proofs.book_trees as book_trees
