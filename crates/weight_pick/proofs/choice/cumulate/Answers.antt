use Rattle.std.proofs.Common.{◌+◌, ℕ, List, [], ◌∷◌, ◌++◌, sym, ap, ◌∙◌, arith}
use Rattle.std.proofs.lemmas.List.Sums.{sum_by_more}
use Rattle.weight_pick.proofs.WeightLemmas.{cumulated_more}
use Rattle.weight_pick.proofs.choice.cumulate.Goals as goal

pub loop-weight-preserved : goal.loop-weight-preserved
loop-weight-preserved c =
    let more = sum_by_more (λ (x : ℕ). x) c.args.weights.now c.loop-weight.weight-index 0 c.loop-weight-test.true in
    record {
      sum = omega arith;
      sums = c.in_ok-push.ensures.ok
          ∙ (ap (λ (t : List ℕ). t ++ (c.loop-weight.sum + c.from-sum.result) ∷ []) c.loop-weight.invariant.sums
          ∙ sym (cumulated_more c.args.weights.now c.loop-weight.weight-index c.from-sum.result c.loop-weight.sum c.loop-weight-test.true c.from-sum.ensures c.loop-weight.invariant.sum));
    }
