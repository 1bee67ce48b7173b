pub mod ChoiceLemmas
pub mod ClusterLemmas
pub mod HostLemmas
pub mod Least
pub mod Members
pub mod RouteLemmas
