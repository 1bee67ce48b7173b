pub mod StepLemmas
pub mod PartLemmas
pub mod PlaceLemmas
pub mod WalkLemmas
pub mod TimeLemmas
pub mod DueLemmas
pub mod EntryLemmas
pub mod AskedLemmas
pub mod KeptLemmas
pub mod PageLemmas
pub mod QuietLemmas
pub mod NameLemmas
pub mod ListedLemmas
pub mod KindLemmas
pub mod TimedLemmas
pub use Rattle.xds_history.proofs.dep_manager as dep_manager
pub use Rattle.xds_history.proofs as xds_history
