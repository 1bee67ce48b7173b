use Rattle.std.proofs.Common.{sym, subst, length, ◌<◌, ◌∙◌}
use Rattle.xds_config.specs.RouteValues.{IsLawfulRouteValue}
use Rattle.config_assembly.proofs.front.front_of_routes.Goals as goal

pub returns-in_ok-share-in-Some-clause-lawful : goal.returns-in_ok-share-in-Some-clause-lawful
returns-in_ok-share-in-Some-clause-lawful c =
    let chosen = c.in-Some.ensures.chosen in
    record {
      routes = subst IsLawfulRouteValue (sym c.in_ok-share-in-Some.ensures) c.requires;
      host = subst (λ r. c.in-Some.host < length r.hosts) (c.get.ensures ∙ sym c.in_ok-share-in-Some.ensures) chosen.1.within;
    }
