use Rattle.std.proofs.Common.{◌≡◌, ℕ, ◌<◌, ◌≤◌, length, get_or}
use Rattle.proto_wire.specs.declared.field.Field.{Field}
use Rattle.proto_wire.proofs.values.last_run.Given as goal

abbrev pub invariant-loop-start : goal.invariant-loop-start
invariant-loop-start l = (l.start ≤ length l.list) × ((k : ℕ) (d : Field) → l.start ≤ k → k < length l.list → (get_or l.list k d).number ≡ l.number)

abbrev pub decreases-loop-start : goal.decreases-loop-start
decreases-loop-start l = l.start
