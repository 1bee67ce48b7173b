pub mod StandingTrees
pub mod ClusterUsers
pub mod ViewChanges
pub mod ClusterTimers
pub mod KeptViews
pub mod PutEntries
