use Rattle.std.proofs.Common.{◌≡◌, ◌≤◌, ◌+◌, take}
use Rattle.std.specs.Prelude.{filter}
use Rattle.xds_cache.specs.KeptFates.{fate_of}
use Rattle.config_assembly.specs.Reach.{is_wanted}
use Rattle.book_fates.proofs.timing.wanted_keys.Given as goal

abbrev pub invariant-loop-key : goal.invariant-loop-key
invariant-loop-key g l = record {
  found : l.wanted ≡ filter (λ key. is_wanted (fate_of l.cache key)) (take l.key-index l.keys);
  counted : l.steps ≤ l.fn.steps + l.key-index;
}
