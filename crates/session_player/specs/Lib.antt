pub mod LineProgress
pub mod PlayerLaws
pub mod Stages
pub use Rattle.legal_plan.specs.legal_history as legal_history
pub use Rattle.xds_book.specs as xds_book
