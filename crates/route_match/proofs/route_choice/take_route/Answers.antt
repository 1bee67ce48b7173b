use Rattle.std.proofs.Common.{◌<◌, ap, arith, sym, subst, ◌∙◌}
use Rattle.std.specs.Prelude.{AllPairs}
use Rattle.xds_config.specs.declared.route_values.Route.{Route}
use Rattle.route_match.specs.Routes.{routed, tried}
use Rattle.route_match.proofs.RouteLemmas.{taken_leads, taken_tried, test_at}
use Rattle.route_match.proofs.route_choice.take_route.Goals as goal

pub is_for-requires-clause-test : goal.is_for-requires-clause-test
is_for-requires-clause-test g c =
    test_at c.args.routes.now c.as_slice-list.result.now c.length_tests-tests.result.now c.loop-at.at c.index-list-at.result _ c.length_tests-tests.ensures c.as_slice-list.ensures c.loop-at-test.true c.index-list-at.is

pub returns-then-branch-clause-answer : goal.returns-then-branch-clause-answer
returns-then-branch-clause-answer g c =
    let rises : AllPairs (λ (a : Route) (b : Route). a.place < b.place) c.as_slice-list.result.now = subst (AllPairs (λ (a : Route) (b : Route). a.place < b.place)) (sym c.as_slice-list.ensures) c.requires.rising in
    c.destination.ensures
    ∙ taken_leads c.as_slice-list.result.now c.args.call.now c.loop-at.at c.index-list-at.result rises c.loop-at-test.true c.index-list-at.is c.loop-at.invariant.none (sym c.in_ok-is_for.ensures ∙ c.if-branch.true)
    ∙ ap (λ routes. routed routes c.args.call.now) c.as_slice-list.ensures

pub returns-then-branch-clause-cost : goal.returns-then-branch-clause-cost
returns-then-branch-clause-cost g c =
    let rises : AllPairs (λ (a : Route) (b : Route). a.place < b.place) c.as_slice-list.result.now = subst (AllPairs (λ (a : Route) (b : Route). a.place < b.place)) (sym c.as_slice-list.ensures) c.requires.rising in
    let count = taken_tried c.as_slice-list.result.now c.args.call.now c.loop-at.at c.index-list-at.result rises c.loop-at-test.true c.index-list-at.is c.loop-at.invariant.none (sym c.in_ok-is_for.ensures ∙ c.if-branch.true) in
    let same = ap (λ routes. tried routes c.args.call.now) c.as_slice-list.ensures in
    omega arith
