pub mod ListedProofs
