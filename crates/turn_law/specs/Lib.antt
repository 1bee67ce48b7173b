pub mod TurnLaw
pub mod LinesBehind
pub use Rattle.text_law.specs.legal_history as legal_history
pub use Rattle.text_law.specs.xds_history as xds_history
