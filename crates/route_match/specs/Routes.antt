-- Which route a call takes, and to which of its clusters it goes (gRFC A28).
use Rattle.std.specs.Prelude.{ℕ, ◌+◌, ◌*◌, ◌&&◌, nat_le, List, [], filter, count_by, length, Bool, true, not, Option, None, Some, Result, Ok, Err, slice_get}
use Rattle.std.specs.List.{list_all, find}
use Rattle.std.specs.Option.{option_map_or}
use Rattle.xc_base.specs.Draws.{draw}
use Rattle.xc_base.specs.declared.call.Call.{Call}
use Rattle.xc_base.specs.declared.reason.Reason.{Reason}
use Rattle.weight_pick.specs.declared.fraction.Fraction.{Fraction}
use Rattle.weight_pick.specs.Fractions.{fraction_met}
use Rattle.weight_pick.specs.Weights.{place_by_weight}
use Rattle.header_match.specs.Headers.{header_met}
use Rattle.header_match.specs.Meets.{meets}
use Rattle.header_match.specs.Texts.{is_same, begins_with}
use Rattle.xds_config.specs.declared.route_values.Route.{Route}
use Rattle.xds_config.specs.declared.route_values.PathTest.{PathTest}
use Rattle.xds_config.specs.declared.route_values.PathTest.TheVariants.{Prefix, Whole, Pattern}
use Rattle.xds_config.specs.declared.route_values.Action.{Action}
use Rattle.xds_config.specs.declared.route_values.Action.TheVariants.{To as Forward, Nothing}
use Rattle.xds_config.specs.declared.config.Front.{Front}
use Rattle.xds_config.specs.RouteValues.{weights_of}
use Rattle.route_match.specs.declared.answer.RouteAnswer.{RouteAnswer}
use Rattle.route_match.specs.declared.answer.RouteAnswer.TheVariants.{To, NoRoute, NoAction, NoFront}

abbrev pub path_met : PathTest → List ℕ → Bool
path_met (Prefix text case) path = begins_with (not case) path text
path_met (Whole text case) path = is_same (not case) path text
path_met (Pattern pattern) path = meets pattern path

-- a route without a fraction takes all calls
abbrev pub share_met : Option Fraction → ℕ → Bool
share_met None draw = true
share_met (Some f) draw = fraction_met f draw

-- whether a route is for the call: its path, all its headers and its fraction hold
abbrev pub route_met : Call → Route → Bool
route_met call r =
    path_met r.path call.path && list_all (λ h. header_met h call) r.headers
    && share_met r.fraction (draw call.word (2 * r.place))

-- the routes of the virtual host of a front
abbrev pub routes_of : Front → List Route
routes_of front = option_map_or (λ h. h.routes) (slice_get front.routes.hosts front.host) []

-- the routes that are for the call
abbrev pub met_routes : List Route → Call → List Route
met_routes routes call = filter (route_met call) routes

-- of these the one whose place is least
abbrev pub least_met : List Route → Call → Option Route
least_met routes call = find (λ r. list_all (λ s. nat_le r.place s.place) (met_routes routes call)) (met_routes routes call)

-- where a route leads a call of this word: to the cluster that a draw chooses by weight, or nowhere
abbrev pub led : ℕ → ℕ → Action → RouteAnswer
led word place (Forward clusters) = To place (place_by_weight (weights_of clusters) (draw word (2 * place + 1)))
led word place Nothing = NoAction place

-- where the routes of a virtual host lead a call
abbrev pub routed : List Route → Call → RouteAnswer
routed routes call = option_map_or (λ r. led call.word r.place r.action) (least_met routes call) NoRoute

abbrev pub route : Result Front Reason → Call → RouteAnswer
route (Err reason) call = NoFront reason
route (Ok front) call = routed (routes_of front) call

-- how many routes are tried: those whose place isn't above that of the route that is taken, and all where none is
abbrev pub tried : List Route → Call → ℕ
tried routes call = option_map_or (λ r. count_by (λ s. nat_le s.place r.place) routes) (least_met routes call) (length routes)

abbrev pub routes_tried : Result Front Reason → Call → ℕ
routes_tried (Err reason) call = 0
routes_tried (Ok front) call = tried (routes_of front) call
