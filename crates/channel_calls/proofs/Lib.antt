pub mod GatedSteps
pub mod LaneSteps
pub use Rattle.lane_checks.proofs.book_calls as book_calls
pub use Rattle.lane_checks.proofs.book_driver as book_driver
pub use Rattle.lane_checks.proofs.book_picks as book_picks
pub use Rattle.lane_checks.proofs.book_streams as book_streams
pub use Rattle.lane_checks.proofs.book_trees as book_trees
pub use Rattle.planned_calls.proofs as planned_calls
