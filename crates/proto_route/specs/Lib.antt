pub mod ConfigSource
pub mod Fraction
pub mod HeaderMatcher
pub mod RouteAction
pub mod RouteMatch
pub mod RawRouteFields
pub mod StringMatcher
