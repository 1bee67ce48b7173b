pub mod FrontProofs
pub mod Fronts
pub use Rattle.report_law.proofs as report_law
pub use Rattle.report_law.proofs.report_writer as report_writer
