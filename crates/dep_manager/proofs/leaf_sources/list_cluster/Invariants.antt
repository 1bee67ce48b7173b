use Rattle.std.proofs.Common.{◌≡◌, ◌||◌, ◌==◌, ℕ, take}
use Rattle.std.specs.Prelude.{◌&&◌}
use Rattle.std.specs.List.{list_any}
use Rattle.xc_base.specs.declared.names.Key.{Key}
use Rattle.dep_manager.specs.LeafPlaces.{is_listed, is_source}
use Rattle.dep_manager.proofs.leaf_sources.list_cluster.Given as goal

abbrev pub invariant-loop-source : goal.invariant-loop-source
invariant-loop-source l = (key : Key) (at : ℕ) → is_listed l.places.entries key at ≡ (is_listed l.fn.places.entries key at || (list_any (is_source key) (take l.source-index l.sources) && (l.place == at)))
