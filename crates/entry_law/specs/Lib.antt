pub mod EntryLaw
pub use Rattle.next_law.specs.legal_history as legal_history
pub use Rattle.next_law.specs.xds_history as xds_history
