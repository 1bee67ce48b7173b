pub mod TreesKept
pub mod ServedPlaces
pub mod ReportedLaws
pub use Rattle.xds_history.specs.config_assembly as config_assembly
pub use Rattle.xds_history.specs.resource_check as resource_check
pub use Rattle.xds_history.specs as xds_history
