pub mod Clusters
pub mod Configs
pub mod Endpoints
pub mod Listeners
pub mod PathLengths
pub mod SearchedLists
pub mod RouteValues
pub mod Values
