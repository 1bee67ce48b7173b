pub mod Words
pub mod Setting
pub mod Clock
pub mod Streams
pub mod Responses
pub mod Page
pub mod Fates
pub mod References
pub mod Requests
pub mod Trees
pub mod Pickers
pub mod Picks
pub mod Pages
pub mod Right
pub mod HistoryLaws
pub use Rattle.call_journal.specs as call_journal
pub use Rattle.check_steps.specs as check_steps
pub use Rattle.cluster_tree.specs as cluster_tree
pub use Rattle.config_assembly.specs as config_assembly
pub use Rattle.dep_manager.specs as dep_manager
pub use Rattle.resource_check.specs as resource_check
pub use Rattle.tree_steps.specs as tree_steps
