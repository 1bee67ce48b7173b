pub mod TextLaw
pub mod RefusedTexts
pub use Rattle.legal_history.specs as legal_history
pub use Rattle.legal_history.specs.report_text as report_text
pub use Rattle.legal_history.specs.xds_history as xds_history
