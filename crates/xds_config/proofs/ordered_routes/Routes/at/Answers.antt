use Rattle.std.proofs.Common.{sym, ap, ◌∙◌, subst, rules, nat_cmp}
use Rattle.std.proofs.lemmas.Fn.{always_returns_same}
use Rattle.std.specs.List.{find}
use Rattle.std.specs.Prelude.{◌==◌}
use Rattle.xds_config.specs.SearchedLists.{AreByPlace}
use Rattle.xds_config.specs.declared.route_values.Route.{Route}
use Rattle.xds_config.proofs.SearchLemmas.{route_found, route_missed}
use Rattle.xds_config.proofs.ordered_routes.Routes.at.Goals as goal

pub returns-in-Ok : goal.returns-in-Ok
returns-in-Ok c =
    let equal = c.in-Ok.ensures.position (λ (r : Route). nat_cmp r.place c.args.place) (always_returns_same _ _ _ (λ a r f k. search rules)) in
    route_found c.as_slice-routes.result.now c.args.place c.in-Ok.at c.index-routes-at.result (subst AreByPlace (sym c.as_slice-routes.ensures) (c.self.invariant.0)) c.in-Ok.ensures.bound c.index-routes-at.is equal
    ∙ ap (find (λ (r : Route). r.place == c.args.place)) (c.as_slice-routes.ensures ∙ c.self.view_is)

pub returns-in-Err : goal.returns-in-Err
returns-in-Err c =
    let parted = c.in-Err.ensures.position (λ (r : Route). nat_cmp r.place c.args.place) (always_returns_same _ _ _ (λ a r f k. search rules)) in
    route_missed c.as_slice-routes.result.now c.args.place c.in-Err.field-0 (subst AreByPlace (sym c.as_slice-routes.ensures) (c.self.invariant.0)) parted
    ∙ ap (find (λ (r : Route). r.place == c.args.place)) (c.as_slice-routes.ensures ∙ c.self.view_is)
