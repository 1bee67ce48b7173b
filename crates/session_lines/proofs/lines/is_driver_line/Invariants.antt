use Rattle.std.proofs.Common.{◌≡◌, length}
use Rattle.session_lines.specs.Lines.{is_driver_line}
use Rattle.session_lines.proofs.lines.is_driver_line.Given as goal

abbrev pub invariant-loop-word : goal.invariant-loop-word
invariant-loop-word l = is_driver_line l.rest ≡ is_driver_line l.fn.line

abbrev pub decreases-loop-word : goal.decreases-loop-word
decreases-loop-word l = length l.rest
