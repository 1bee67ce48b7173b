use Rattle.std.proofs.Common.{◌<◌, arith}
use Rattle.check_clusters.proofs.GapLemmas.{too_high, all_there}
use Rattle.check_clusters.proofs.localities.have_no_gap.Goals as goal

pub returns-then-priority-next : goal.returns-then-priority-next
returns-then-priority-next c =
    let above : c.loop-locality.next < c.locality-item.result.priority = omega (arith, c.from-priority.ensures) in
    too_high c.args.localities.now c.loop-locality.locality-index c.loop-locality.next c.locality-item.result c.requires c.loop-locality-test.true c.locality-item.is above c.loop-locality.invariant.rest

pub returns : goal.returns
returns c = all_there c.args.localities.now c.loop-locality.locality-index c.loop-locality.next c.requires (omega arith) c.loop-locality.invariant.rest
