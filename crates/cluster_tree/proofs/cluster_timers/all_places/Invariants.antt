use Rattle.std.proofs.Common.{◌<◌, ℕ}
use Rattle.tree_timers.specs.EndsKept.{HasPlace}
use Rattle.cluster_tree.proofs.cluster_timers.all_places.Given as goal

abbrev pub invariant-loop-place : goal.invariant-loop-place
invariant-loop-place l = (place : ℕ) → place < l.place → HasPlace l.due place
