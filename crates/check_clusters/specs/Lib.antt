pub mod Assignments
pub mod ClusterTable
pub mod Places
