use Rattle.std.proofs.Common.{ℕ, List, take, sym, subst, Option, ◌+◌}
use Rattle.route_match.specs.declared.domains.Rank.{Rank}
use Rattle.route_match.specs.Ranks.{IsBestOf}
use Rattle.route_match.proofs.HostLemmas.{IsChosenOf, host_more, ends_well}
use Rattle.route_match.proofs.host_choice.choose_host.Goals as goal

pub loop-place-preserved : goal.loop-place-preserved
loop-place-preserved c =
    let own = subst (λ (ds : List (List ℕ)). IsBestOf ds c.args.text.now c.loop-place.place c.best_rank.result) c.as_slice.ensures c.best_rank.ensures in
    subst (λ (b : Option Rank). IsChosenOf (take (c.loop-place.place + 1) c.as_slice-host-items.result.now) c.args.text.now b) (sym c.better-best.ensures)
    (host_more c.as_slice-host-items.result.now c.args.text.now c.loop-place.place c.loop-place.best c.best_rank.result c.host-item.result c.loop-place-test.true c.host-item.is c.loop-place.invariant own)

pub returns : goal.returns
returns c =
    let ends = ends_well c.as_slice-host-items.result.now c.args.hosts.now c.args.text.now c.loop-place.place c.loop-place.best c.host_of.result c.as_slice-host-items.ensures c.loop-place-test.false c.host_of.ensures c.loop-place.invariant in
    record { host = ends.host; chosen = ends.chosen; none = ends.none }
