pub mod Aggregate
pub mod Assignment
pub mod Cluster
pub mod Endpoint
pub mod Locality
