use Rattle.std.proofs.Common.{◌≡◌, take, None}
use Rattle.std.specs.Prelude.{◌&&◌, not, if◌then◌else◌}
use Rattle.xc_base.specs.declared.names.Key.{Key}
use Rattle.xds_cache.specs.KeptFates.{known_of}
use Rattle.config_assembly.specs.Watching.{has_key}
use Rattle.config_assembly.proofs.watching.unwatch_others.Given as goal

abbrev pub invariant-loop-key : goal.invariant-loop-key
invariant-loop-key l = (key : Key) → known_of l.cache key ≡ (if has_key (take l.key-index l.keys) key && not (has_key l.others.keys key) then None else known_of l.fn.cache key)
