pub mod Legal
pub mod Report
pub mod LegalLaws
pub use Rattle.xds_history.specs.cluster_tree as cluster_tree
pub use Rattle.report_text.specs as report_text
pub use Rattle.xds_history.specs.resource_check as resource_check
pub use Rattle.session_script.specs as session_script
pub use Rattle.xds_history.specs as xds_history
