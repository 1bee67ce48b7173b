use Rattle.std.proofs.Common.{◌≡◌, sum, take}
use Rattle.weight_pick.specs.Weights.{cumulated}
use Rattle.weight_pick.proofs.choice.cumulate.Given as goal

abbrev pub invariant-loop-weight : goal.invariant-loop-weight
invariant-loop-weight l = record {
  sum : l.sum ≡ sum (take l.weight-index l.weights);
  sums : l.sums ≡ cumulated (take l.weight-index l.weights);
}
