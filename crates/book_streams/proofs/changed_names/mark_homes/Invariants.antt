use Rattle.std.proofs.Common.{drop}
use Rattle.book_streams.specs.Settling.{HaveSameNames, KeepsMarks}
use Rattle.book_streams.proofs.changed_names.mark_homes.Given as goal

abbrev pub invariant-loop-key : goal.invariant-loop-key
invariant-loop-key l = record {
  kept : KeepsMarks l.fn.marks l.marks;
  same : HaveSameNames l.marks (drop 0 l.keys) (drop l.key-index l.keys);
}
