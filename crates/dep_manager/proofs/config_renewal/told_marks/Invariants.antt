use Rattle.std.proofs.Common.{◌≡◌, ◌<◌, ◌||◌, ℕ, false, drop, get_or, length}
use Rattle.std.specs.Map.{keys_of}
use Rattle.dep_manager.proofs.PlaceLemmas.{has_any}
use Rattle.dep_manager.proofs.config_renewal.told_marks.Given as goal

abbrev pub invariant-loop-place : goal.invariant-loop-place
invariant-loop-place l = record {
  count : length l.told ≡ length l.sources;
  marked : (at : ℕ) → at < length l.told → (get_or l.told at false || has_any (drop l.place (keys_of l.news)) l.sources at) ≡ has_any (keys_of l.news) l.sources at;
}
