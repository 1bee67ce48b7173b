mod EndLemmas
mod LineFronts
pub use Rattle.front_law.proofs as front_law
pub use Rattle.front_law.proofs.report_law as report_law
pub use Rattle.text_law.proofs as text_law
pub use Rattle.text_law.proofs.xds_history as xds_history
