use Rattle.std.proofs.Common.{arith}
use Rattle.tree_timers.proofs.EndLemmas.{more_places}
use Rattle.cluster_tree.proofs.TimerLemmas.{below_more}
use Rattle.cluster_tree.proofs.cluster_timers.all_places.Goals as goal

pub loop-place-init : goal.loop-place-init
loop-place-init c place lt = absurd (omega (arith, lt))

pub loop-place-preserved : goal.loop-place-preserved
loop-place-preserved c =
    below_more c.loop-place.due c.insert.new.self c.loop-place.place (more_places c.loop-place.due c.loop-place.due c.insert.new.self _ c.in_ok-insert.ensures.updates.0 (λ place there. there)) c.in_ok-insert.ensures.updates.1 c.loop-place.invariant

pub returns : goal.returns
returns c place lt = let all = c.loop-place-test.false in c.loop-place.invariant place (omega (arith, lt, all))
