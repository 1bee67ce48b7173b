use Rattle.std.proofs.Common.{◌≡◌, ◌+◌, [], length}
use Rattle.session_lines.specs.Lines.{lines_of}
use Rattle.session_lines.specs.Session.{lines_from}
use Rattle.session_script.proofs.session_reading.lines.Given as goal

abbrev pub invariant-loop-line : goal.invariant-loop-line
invariant-loop-line l = lines_from l.fn.head l.reader (length l.reader + 5) (lines_of l.rest) ≡ lines_from l.fn.head [] 5 (lines_of l.fn.bytes)

abbrev pub decreases-loop-line : goal.decreases-loop-line
decreases-loop-line l = length l.rest
