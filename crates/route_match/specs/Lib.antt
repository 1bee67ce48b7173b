pub mod NamedClusters
pub mod Domains
pub mod Ranks
pub mod Routes
