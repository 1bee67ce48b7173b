use Rattle.std.proofs.Common.{◌≡◌, ℕ, ◌+◌, ◌-◌, length}
use Rattle.session_lines.specs.KeptSession.{use_of}
use Rattle.session_lines.proofs.call_uses.reach.Given as goal

abbrev pub invariant-loop-uses : goal.invariant-loop-uses
invariant-loop-uses l = (id : ℕ) → use_of l.uses.items id ≡ use_of l.fn.uses.items id

abbrev pub decreases-loop-uses : goal.decreases-loop-uses
decreases-loop-uses l = l.place + 1 - length l.uses.items
