pub mod Asking
pub mod CallFractions
pub mod ResourceNames
pub mod Sets
pub mod Sources
pub mod TableSteps
