use Rattle.std.proofs.Common.{◌≡◌, ◌<◌, ◌^◌, drop}
use Rattle.check_clusters.proofs.WeightLemmas.{fits_from}
use Rattle.check_clusters.proofs.localities.have_weights.Given as goal

abbrev pub invariant-loop-locality : goal.invariant-loop-locality
invariant-loop-locality l = record {
  small : l.sum < 2 ^ 32;
  rest : fits_from l.priority l.sum (drop l.locality-index l.localities) ≡ fits_from 0 0 l.localities;
}
