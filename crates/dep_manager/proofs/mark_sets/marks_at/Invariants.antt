use Rattle.std.proofs.Common.{◌≡◌, length}
use Rattle.std.specs.Prelude.{All}
use Rattle.place_marks.specs.Marks.{marked_on, marks_of}
use Rattle.dep_manager.proofs.MarkSetLemmas.{IsFree}
use Rattle.dep_manager.proofs.mark_sets.marks_at.Given as goal

abbrev pub invariant-loop-place : goal.invariant-loop-place
invariant-loop-place l = record {
  count : length l.marks ≡ l.count;
  free : All (IsFree l.marks) l.left.keys;
  all : marked_on l.marks l.left.keys ≡ marks_of l.count l.fn.places.keys;
}

abbrev pub decreases-loop-place : goal.decreases-loop-place
decreases-loop-place l = length l.left.keys
