-- What holds of the routes of a virtual host that passed their checks.
use Rattle.std.specs.Prelude.{◌<◌, ◌^◌, List, [], ◌∷◌, length, All, AllPairs, Option, Some, None}
use Rattle.xds_config.specs.declared.route_values.Route.{Route}
use Rattle.xds_config.specs.RouteValues.{IsLawfulRoute}

-- they stand by rising place
pub record AreLawfulRoutes (routes : List Route) : Type 0 where
  pub each : All IsLawfulRoute routes
  pub rising : AllPairs (λ a b. a.place < b.place) routes
  pub few : length routes < 2 ^ 31

-- the one that there is, if there is one
abbrev pub listed : {A : Type 0} → Option A → List A
listed None = []
listed (Some x) = x ∷ []
