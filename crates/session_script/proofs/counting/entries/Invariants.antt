use Rattle.std.proofs.Common.{◌≡◌, take}
use Rattle.session_lines.specs.Before.{entries}
use Rattle.session_script.proofs.counting.entries.Given as goal

abbrev pub invariant-loop-line : goal.invariant-loop-line
invariant-loop-line l = l.entries ≡ entries (take l.line-index l.fn.lines)
