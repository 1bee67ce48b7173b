pub mod KeySets
pub mod AnswerSteps
pub mod SettleSteps
pub mod ReportSteps
pub use Rattle.book_fates.proofs as book_fates
pub use Rattle.book_streams.proofs as book_streams
