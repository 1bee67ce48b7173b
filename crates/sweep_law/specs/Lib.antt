pub mod SweepLaw
pub use Rattle.next_law.specs.legal_history as legal_history
