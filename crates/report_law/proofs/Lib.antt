pub mod PublishedLemmas
pub mod ShownLemmas
mod ReportProofs
pub use Rattle.report_writer.proofs as report_writer
