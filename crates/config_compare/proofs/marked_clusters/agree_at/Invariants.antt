use Rattle.std.proofs.Common.{◌≡◌}
use Rattle.std.specs.Prelude.{slice_get}
use Rattle.config_compare.proofs.MarkedLemmas.{HoldAt}
use Rattle.config_compare.proofs.marked_clusters.agree_at.Given as goal

abbrev pub invariant-loop-place : goal.invariant-loop-place
invariant-loop-place l = HoldAt (λ place. slice_get l.clusters place ≡ slice_get l.others place) l.places l.place-index
