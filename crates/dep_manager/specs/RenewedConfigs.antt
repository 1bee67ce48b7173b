-- A configuration once endpoints changed: what they don't touch stays.
use Rattle.std.specs.Prelude.{Bool, ◌||◌, List, [], ◌∷◌, map, Option, None, Some, Result, Ok, Err, if◌then◌else◌, option_and_then}
use Rattle.std.specs.List.{list_any}
use Rattle.xc_base.specs.declared.names.Key.{Key}
use Rattle.xc_base.specs.declared.reason.Reason.{Reason}
use Rattle.xds_config.specs.declared.config.Leaf.{Leaf}
use Rattle.xds_config.specs.declared.config.Leaves.{Leaves}
use Rattle.xds_config.specs.declared.config.ClusterEntry.{ClusterEntry}
use Rattle.xds_config.specs.declared.config.Config.{Config}
use Rattle.dep_manager.specs.EndpointNews.{State, Told, is_told, state_in}

abbrev pub leaf_with : Leaf → Option State → Leaf
leaf_with leaf None = leaf
leaf_with leaf (Some state) = record { name = leaf.name; state = state }

-- a leaf whose endpoints are those of this key
abbrev pub renewed_leaf : Told → Leaf → Option Key → Leaf
renewed_leaf told leaf source = leaf_with leaf (option_and_then (state_in told) source)

-- each member of a list by the one at its place in another
abbrev pub paired : {X Y : Type 0} → (X → Y → X) → List X → List Y → List X
paired f xs [] = []
paired f [] (y ∷ ys) = []
paired f (x ∷ xs) (y ∷ ys) = f x y ∷ paired f xs ys

-- each leaf with its key
abbrev pub renewed_leaves : Told → List Leaf → List (Option Key) → List Leaf
renewed_leaves told leaves sources = paired (renewed_leaf told) leaves sources

abbrev pub renewed_state : Told → Result Leaves Reason → List (Option Key) → Result Leaves Reason
renewed_state told (Ok leaves) sources = Ok record { aggregate = leaves.aggregate; leaves = renewed_leaves told leaves.leaves sources }
renewed_state told (Err reason) sources = Err reason

-- the entry of a cluster that has leaves of these keys
abbrev pub renewed_entry : Told → ClusterEntry → List (Option Key) → ClusterEntry
renewed_entry told entry sources = if list_any (is_told told) sources then record { name = entry.name; state = renewed_state told entry.state sources } else entry

-- each entry with the keys of its leaves
abbrev pub renewed_entries : Told → List ClusterEntry → List (List (Option Key)) → List ClusterEntry
renewed_entries told entries sources = paired (renewed_entry told) entries sources

abbrev pub renewed_config : Told → Config → List (List (Option Key)) → Config
renewed_config told config sources = if list_any (list_any (is_told told)) sources then record { front = config.front; clusters = renewed_entries told config.clusters sources } else config

-- a mark that is set in either list, at each place that both have
abbrev pub joined_marks : List Bool → List Bool → List Bool
joined_marks marks told = paired ◌||◌ marks told

-- which entries may be other ones than at a time before, once those are marked of which a leaf was told
abbrev pub renewed_marks : Told → List Bool → List (List (Option Key)) → List Bool
renewed_marks told marks sources = if list_any (list_any (is_told told)) sources then joined_marks marks (map (list_any (is_told told)) sources) else marks
