use Rattle.std.proofs.Common.{◌≡◌, ◌<◌, ℕ, length, get_or, true, false}
use Rattle.tree_steps.proofs.users.with_marks.Given as goal

abbrev pub invariant-loop-place : goal.invariant-loop-place
invariant-loop-place l = record {
  count : length l.marks.items ≡ length l.initial.marks.items;
  kept : (p : ℕ) → get_or l.initial.marks.items p false ≡ true → get_or l.marks.items p false ≡ true;
  marked : (k : ℕ) → k < l.place-index → get_or l.places k 0 < length l.marks.items → get_or l.marks.items (get_or l.places k 0) false ≡ true;
}
