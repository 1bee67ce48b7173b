pub mod CutLemmas
pub mod FaultLemmas
pub mod FrameLemmas
pub mod ListLemmas
pub mod OnlyLemmas
pub mod RunLemmas
pub mod TakeLemmas
