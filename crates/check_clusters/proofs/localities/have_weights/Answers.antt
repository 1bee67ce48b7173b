use Rattle.std.proofs.Common.{◌≡◌, ◌+◌, ap, sym, ◌∙◌, cond, arith, eq-eqb, ne_eqb}
use Rattle.check_clusters.proofs.WeightLemmas.{too_heavy, all_fit, carried, next_sum}
use Rattle.check_clusters.proofs.localities.have_weights.Goals as goal
use Rattle.check_clusters.proofs.localities.have_weights.Goals.{then-locality-priority, else-locality-priority}

pub returns-then-sum-from : goal.returns-then-sum-from
returns-then-sum-from c =
    let so_far : c.if-locality-priority.so_far ≡ carried c.locality-item.result.priority c.loop-locality.priority c.loop-locality.sum =
    elim c.if-locality-priority.branch [
      | then-locality-priority w ↦ w.so_far-is ∙ ap (λ t. cond t c.loop-locality.sum 0) (sym (eq-eqb c.locality-item.result.priority c.loop-locality.priority w.if-locality-priority.true))
      | else-locality-priority w ↦ w.so_far-is ∙ ap (λ t. cond t c.loop-locality.sum 0) (sym (ne_eqb c.locality-item.result.priority c.loop-locality.priority w.if-locality-priority.false))
    ] in
    let sum : c.if-locality-priority.so_far + c.from.result ≡ next_sum c.loop-locality.priority c.loop-locality.sum c.locality-item.result = omega (arith, so_far, c.from.ensures) in
    too_heavy c.args.localities.now c.loop-locality.locality-index c.loop-locality.priority c.loop-locality.sum (c.if-locality-priority.so_far + c.from.result) c.locality-item.result
    c.requires c.loop-locality-test.true c.locality-item.is sum (omega (arith, c.from-in-loop-locality.ensures)) c.loop-locality.invariant.rest

pub returns : goal.returns
returns c = all_fit c.args.localities.now c.loop-locality.locality-index c.loop-locality.priority c.loop-locality.sum c.requires (omega arith) c.loop-locality.invariant.rest
