pub mod Denominators
pub mod Fractions
pub mod Weights
