use Rattle.std.proofs.Common.{◌≤◌, ◌+◌, ◌-◌, drop, length}
use Rattle.book_streams.specs.Settling.{IsCompared}
use Rattle.book_streams.proofs.changed_names.compare_keys.Given as goal

abbrev pub invariant-loop-at : goal.invariant-loop-at
invariant-loop-at l = record {
  compared : IsCompared l.fn.marks l.marks l.before l.after (drop l.at.before l.before) (drop l.at.after l.after);
  before : l.at.before ≤ length l.before;
  after : l.at.after ≤ length l.after;
}

abbrev pub decreases-loop-at : goal.decreases-loop-at
decreases-loop-at l = (length l.before + length l.after) - (l.at.before + l.at.after)
