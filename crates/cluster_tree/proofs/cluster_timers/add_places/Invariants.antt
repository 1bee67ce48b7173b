use Rattle.std.proofs.Common.{take}
use Rattle.std.specs.Prelude.{All}
use Rattle.tree_timers.specs.EndsKept.{HasPlace, KeepsPlaces}
use Rattle.cluster_tree.proofs.cluster_timers.add_places.Given as goal

abbrev pub invariant-loop-place : goal.invariant-loop-place
invariant-loop-place l = record {
  added : All (λ place. HasPlace l.due place) (take l.place-index l.places);
  kept : KeepsPlaces l.initial.due l.due;
}
