use Rattle.std.proofs.Common.{◌<◌, [], ap, subst, sym, ◌∙◌}
use Rattle.std.specs.Prelude.{AllPairs, IfOk}
use Rattle.std.specs.Option.{option_copied, option_map_or}
use Rattle.xds_config.specs.Configs.{IsLawfulFront}
use Rattle.xds_config.specs.declared.route_values.Host.{Host}
use Rattle.xds_config.specs.declared.route_values.Route.{Route}
use Rattle.route_match.proofs.RouteLemmas.{routes_rise}
use Rattle.route_match.proofs.route_choice.choose_route.Goals as goal

pub take_route-requires-clause-rising : goal.take_route-requires-clause-rising
take_route-requires-clause-rising g c =
    subst (AllPairs (λ (a : Route) (b : Route). a.place < b.place)) (ap (λ o. option_map_or (λ (h : Host). h.routes) o []) (sym c.host_of.ensures ∙ ap (λ o. option_copied o) c.in-Some.is))
    (routes_rise c.in-Ok.front (subst (λ f. IfOk f IsLawfulFront) c.in-Ok.is c.requires.lawful))
