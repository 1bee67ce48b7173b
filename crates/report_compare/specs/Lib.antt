pub mod FirstLines
pub mod LegalReports
pub use Rattle.front_law.specs as front_law
pub use Rattle.text_law.specs.legal_history as legal_history
pub use Rattle.report_text.specs as report_text
pub use Rattle.front_law.specs.report_writer as report_writer
pub use Rattle.text_law.specs as text_law
pub use Rattle.text_law.specs.xds_history as xds_history
