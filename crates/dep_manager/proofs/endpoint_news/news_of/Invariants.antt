use Rattle.std.proofs.Common.{◌≡◌, ◌+◌, take, None, Some}
use Rattle.std.specs.Prelude.{if◌then◌else◌}
use Rattle.std.specs.List.Sorted.{IsStrictlySortedBy}
use Rattle.xc_base.specs.declared.names.Key.{Key}
use Rattle.xc_keys.specs.Keys.{key_cmp}
use Rattle.xds_cache.specs.KeptFates.{fate_of}
use Rattle.config_assembly.specs.WholeConfigs.{endpoints_of}
use Rattle.config_assembly.specs.Watching.{has_key}
use Rattle.dep_manager.specs.EndpointNews.{AreLawfulNews, is_awaited, state_in}
use Rattle.dep_manager.proofs.endpoint_news.news_of.Given as goal

abbrev pub invariant-loop-key : goal.invariant-loop-key
invariant-loop-key g l = record {
  told : (key : Key) → state_in l.gathered key ≡ (if has_key (take l.key-index l.changed) key then Some (endpoints_of (fate_of l.cache key)) else None);
  waits : (key : Key) → has_key l.awaited.keys key ≡ (if has_key (take l.key-index l.changed) key then is_awaited l.cache key else has_key l.fn.awaited.keys key);
  rising : IsStrictlySortedBy key_cmp l.fn.awaited.keys → IsStrictlySortedBy key_cmp l.awaited.keys;
  lawful : AreLawfulNews l.gathered;
  counted : l.steps ≡ l.fn.steps + l.key-index;
}
