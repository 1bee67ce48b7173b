use Rattle.std.proofs.Common.{◌-◌}
use Rattle.xds_config.proofs.HalvesLemmas.{IsBetween}
use Rattle.xds_config.proofs.ordered_clusters.place_for.Given as goal

abbrev pub invariant-loop-from : goal.invariant-loop-from
invariant-loop-from l = IsBetween l.clusters l.name l.from l.to

abbrev pub decreases-loop-from : goal.decreases-loop-from
decreases-loop-from l = l.to - l.from
