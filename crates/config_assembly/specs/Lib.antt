pub mod Orders
pub mod ReachedResources
pub mod Front
pub mod Reach
pub mod WholeConfigs
pub mod Watching
pub mod DepsViews
pub mod Tables
