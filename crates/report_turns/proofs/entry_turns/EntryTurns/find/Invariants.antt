use Rattle.std.proofs.Common.{◌≡◌, length}
use Rattle.report_turns.specs.TurnLines.{next_of}
use Rattle.report_turns.proofs.entry_turns.EntryTurns.find.Given as goal

abbrev pub invariant-loop-line : goal.invariant-loop-line
invariant-loop-line l = next_of l.self ≡ next_of l.fn.self

abbrev pub decreases-loop-line : goal.decreases-loop-line
decreases-loop-line l = length l.self
