pub mod SnapshotNumbers
pub mod SnapshotPlaces
pub mod RefSteps
pub mod SortedNames
pub mod ReferenceProofs
pub mod CallsProofs
pub use Rattle.xds_history.proofs as xds_history
