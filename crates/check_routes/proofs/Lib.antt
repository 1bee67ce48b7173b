pub mod FairRoutes
pub mod HostLemmas
pub mod RouteLemmas
pub mod SplitLemmas
