use Rattle.std.proofs.Common.{◌∙◌, true, false, ap, length}
use Rattle.std.proofs.lemmas.List.{length-replicate, length-set}
use Rattle.place_marks.specs.Marks.{marked_on, marks_of}
use Rattle.dep_manager.proofs.MarkSetLemmas.{free_begin, free_first, free_next, marks_more}
use Rattle.dep_manager.proofs.mark_sets.marks_at.Goals as goal

pub loop-place-init : goal.loop-place-init
loop-place-init c = record {
  count = ap length c.none-marks.ensures ∙ length-replicate c.args.count false;
  free = free_begin c.none-marks.result c.args.count c.args.places.keys c.none-marks.ensures;
  all = ap (λ ms. marked_on ms c.args.places.keys) c.none-marks.ensures;
}

pub mark_within-requires-clause-last : goal.mark_within-requires-clause-last
mark_within-requires-clause-last c = free_first c.loop-place.marks c.loop-place.left.keys c.pop_first.new.self.keys c.in-Some.place c.in-Some.ensures.removal c.loop-place.invariant.free

pub loop-place-preserved : goal.loop-place-preserved
loop-place-preserved c = record {
  count = ap length c.in_ok-mark_within.ensures ∙ length-set c.loop-place.marks c.in-Some.place true ∙ c.loop-place.invariant.count;
  free = free_next c.loop-place.marks c.mark_within.new.marks c.loop-place.left.keys c.pop_first.new.self.keys c.in-Some.place c.in-Some.ensures.removal c.in_ok-mark_within.ensures c.in-Some.ensures.all_above c.loop-place.invariant.free;
  all = marks_more c.loop-place.marks c.mark_within.new.marks c.loop-place.left.keys c.pop_first.new.self.keys c.in-Some.place (marks_of c.args.count c.args.places.keys) c.in-Some.ensures.removal c.in_ok-mark_within.ensures c.loop-place.invariant.all;
}
