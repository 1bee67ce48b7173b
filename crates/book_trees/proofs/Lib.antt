pub mod PriorityLemmas
pub mod LifeLemmas
pub mod SeenLemmas
pub mod GrownLemmas
pub mod CameLemmas
pub mod MarkedLemmas
pub mod FollowLemmas
pub mod DueNumberLemmas
pub mod ServedLemmas
pub mod StayingLemmas
pub mod TypedLemmas
pub use Rattle.xds_history.proofs as xds_history
