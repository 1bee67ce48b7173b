pub mod NamedParts
pub mod FateSteps
pub mod Timing
pub mod FatesKept
pub mod Delivered
pub mod KindRanges
pub use Rattle.config_assembly.specs as config_assembly
pub use Rattle.xds_history.specs.dep_manager as dep_manager
pub use Rattle.xds_history.specs.resource_check as resource_check
pub use Rattle.xds_history.specs as xds_history
