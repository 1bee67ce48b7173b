pub mod HeaderTable
pub mod LawfulRoutes
pub mod ListenerTable
pub mod RouteTable
