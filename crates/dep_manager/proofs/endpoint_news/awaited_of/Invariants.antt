use Rattle.std.proofs.Common.{◌≡◌, take, false}
use Rattle.std.specs.Prelude.{if◌then◌else◌}
use Rattle.std.specs.List.Sorted.{IsStrictlySortedBy}
use Rattle.xc_base.specs.declared.names.Key.{Key}
use Rattle.xc_keys.specs.Keys.{key_cmp}
use Rattle.xds_cache.specs.KeptFates.{fate_of}
use Rattle.config_assembly.specs.Reach.{is_wanted}
use Rattle.config_assembly.specs.Watching.{has_key}
use Rattle.dep_manager.proofs.endpoint_news.awaited_of.Given as goal

abbrev pub invariant-loop-key : goal.invariant-loop-key
invariant-loop-key g l = record {
  waits : (key : Key) → has_key l.awaited.keys key ≡ (if has_key (take l.key-index l.keys) key then is_wanted (fate_of l.cache key) else false);
  rising : IsStrictlySortedBy key_cmp l.awaited.keys;
}
