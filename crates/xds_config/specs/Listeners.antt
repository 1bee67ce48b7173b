-- What holds of a listener that passed its checks (gRFC A27, Envoy's HttpConnectionManager).
use Rattle.std.specs.Prelude.{◌≢◌, []}
use Rattle.xds_config.specs.declared.listener_values.ListenerValue.{ListenerValue}
use Rattle.xds_config.specs.declared.listener_values.RoutesFrom.{RoutesFrom}
use Rattle.xds_config.specs.declared.listener_values.RoutesFrom.TheVariants.{Inline, Named}
use Rattle.xds_config.specs.RouteValues.{IsLawfulRouteValue}

-- routes that stand in a listener may have no name
abbrev pub IsLawfulFrom : RoutesFrom → Type 0
IsLawfulFrom (Inline routes) = IsLawfulRouteValue routes
IsLawfulFrom (Named name) = name ≢ []

pub record IsLawfulListener (value : ListenerValue) : Type 0 where
  pub named : value.name ≢ []
  pub routes : IsLawfulFrom value.routes
