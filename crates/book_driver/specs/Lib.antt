pub mod ReferredClusters
pub mod WatcherKept
pub mod Assembled
pub mod Renewals
pub mod Subscribed
pub mod Courses
pub mod ShownTrees
pub mod DriverKept
pub use Rattle.driver_step.specs.book_fates as book_fates
pub use Rattle.book_hearing.specs as book_hearing
pub use Rattle.driver_step.specs.book_streams as book_streams
pub use Rattle.book_trees.specs as book_trees
pub use Rattle.config_assembly.specs as config_assembly
