pub mod PublishedSnapshots
pub mod RefsKept
pub mod SeenReferences
pub mod CallsKept
pub mod CallsLaws
pub use Rattle.xds_history.specs.resource_check as resource_check
pub use Rattle.xds_history.specs as xds_history
