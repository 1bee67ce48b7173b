use Rattle.config_compare.specs.MarkedClusters.{IsNamedAlikeAt}
use Rattle.config_compare.proofs.MarkedLemmas.{HoldAt}
use Rattle.config_compare.proofs.marked_clusters.are_named_alike_at.Given as goal

abbrev pub invariant-loop-place : goal.invariant-loop-place
invariant-loop-place l = HoldAt (IsNamedAlikeAt l.clusters l.others) l.places l.place-index
