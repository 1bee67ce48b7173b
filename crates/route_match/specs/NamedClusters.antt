-- The cluster that an answer names (gRFC A28).
use Rattle.std.specs.Prelude.{ℕ, ◌==◌, List, Option, None, option_map, option_and_then, slice_get}
use Rattle.std.specs.List.{find}
use Rattle.xds_config.specs.declared.route_values.Action.{Action}
use Rattle.xds_config.specs.declared.route_values.Action.TheVariants.{To as Forward, Nothing}
use Rattle.xds_config.specs.declared.config.Front.{Front}
use Rattle.route_match.specs.declared.answer.RouteAnswer.{RouteAnswer}
use Rattle.route_match.specs.declared.answer.RouteAnswer.TheVariants.{To, NoRoute, NoAction, NoFront}
use Rattle.route_match.specs.Routes.{routes_of}

-- the cluster at a place of an action's list
abbrev pub chosen_of : Action → ℕ → Option (List ℕ)
chosen_of (Forward clusters) choice = option_map (λ c. c.cluster) (slice_get clusters choice)
chosen_of Nothing choice = None

-- The cluster of an answer of this front: the route of that place has it at that choice. No other answer has one.
abbrev pub answer_cluster : Front → RouteAnswer → Option (List ℕ)
answer_cluster front (To place choice) =
    option_and_then (λ r. chosen_of r.action choice) (find (λ r. r.place == place) (routes_of front))
answer_cluster front NoRoute = None
answer_cluster front (NoAction place) = None
answer_cluster front (NoFront reason) = None
