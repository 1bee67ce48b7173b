use Rattle.std.proofs.Common.{◌≡◌, ◌≤◌, drop}
use Rattle.check_clusters.proofs.GapLemmas.{closes_from}
use Rattle.check_clusters.proofs.localities.have_no_gap.Given as goal

abbrev pub invariant-loop-locality : goal.invariant-loop-locality
invariant-loop-locality l = record {
  within : l.next ≤ l.locality-index;
  rest : closes_from l.next (drop l.locality-index l.localities) ≡ closes_from 0 l.localities;
}
