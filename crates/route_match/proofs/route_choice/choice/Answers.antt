use Rattle.std.proofs.Common.{◌+◌, arith}
use Rattle.route_match.proofs.ChoiceLemmas.{sum_more, sum_within, chosen_here}
use Rattle.route_match.proofs.route_choice.choice.Goals as goal

pub overflow_add-sum : goal.overflow_add-sum
overflow_add-sum c =
    let more = sum_more c.args.clusters.now c.loop-place.place c.index-clusters-place.result c.loop-place-test.true c.index-clusters-place.is in
    let whole = sum_within c.args.clusters.now (c.loop-place.place + 1) in
    let below = c.requires.weights.below in
    omega arith

pub returns-then-target-sum : goal.returns-then-target-sum
returns-then-target-sum c =
    let more = sum_more c.args.clusters.now c.loop-place.place c.index-clusters-place.result c.loop-place-test.true c.index-clusters-place.is in
    chosen_here c.args.clusters.now c.args.draw c.target_of-target.result c.loop-place.place c.loop-place-test.true c.target_of-target.ensures (omega arith) (omega arith)

pub loop-place-preserved : goal.loop-place-preserved
loop-place-preserved c =
    let more = sum_more c.args.clusters.now c.loop-place.place c.index-clusters-place.result c.loop-place-test.true c.index-clusters-place.is in
    record { sum = omega arith; below = c.if-target-sum.false }
