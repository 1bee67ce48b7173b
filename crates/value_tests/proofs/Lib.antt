pub mod WeightRows
pub mod HeaderRows
pub mod NameRows
pub mod ConfigRows
pub mod RouteRows
