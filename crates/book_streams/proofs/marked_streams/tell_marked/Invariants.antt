use Rattle.std.proofs.Common.{◌≡◌}
use Rattle.book_streams.specs.StreamsKept.{names_among}
use Rattle.book_streams.specs.Settling.{IsTelling}
use Rattle.book_streams.proofs.marked_streams.tell_marked.Given as goal

abbrev pub invariant-loop-place : goal.invariant-loop-place
invariant-loop-place l = record {
  telling : IsTelling (names_among l.fn.told) l.fn.streams.items l.streams.items l.marks l.sent l.place l.place-end;
  told : l.told ≡ l.fn.told;
}
