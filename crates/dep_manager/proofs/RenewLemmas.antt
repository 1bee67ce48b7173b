-- What is kept once endpoints changed.
use Rattle.std.proofs.Common.{◌≡◌, ℕ, suc, ◌<◌, arith, Bool, true, false, ◌||◌, Option, Some, None, Result, Ok, Err, List, [], ◌∷◌, ◌++◌, map, take, length, get_or, refl, sym, ap, ap₂, ◌∙◌, subst, is_some}
use Rattle.std.specs.Prelude.{◌≢◌, ◌^◌, ◌&&◌, All, AllPairs, Contains, IfOk, IfSome, filter, if◌then◌else◌, option_and_then, option_map, unwrap_or}
use Rattle.std.specs.List.{list_any}
use Rattle.std.specs.List.Sorted.{IsStrictlySortedBy}
use Rattle.std.proofs.lemmas.Bool.{true≢false}
use Rattle.std.proofs.lemmas.List.{get_or-map, length-map}
use Rattle.std.proofs.lemmas.List.Elements.{All-cons}
use Rattle.std.proofs.lemmas.List.Kept.{IsStrictlySortedBy-filter}
use Rattle.xc_keys.specs.Keys.{key_cmp}
use Rattle.xc_keys.proofs.KeyLemmas.{key_total}
use Rattle.xc_keys.proofs.MemberLemmas.{here, there}
use Rattle.xc_base.specs.declared.names.Kind.{Kind}
use Rattle.xc_base.specs.declared.names.Key.{Key}
use Rattle.xc_base.specs.declared.reason.Reason.{Reason}
use Rattle.xds_bootstrap.specs.declared.bootstrap.AuthorityEntry.{AuthorityEntry}
use Rattle.xds_name.specs.declared.target.Target.{Target}
use Rattle.xds_config.specs.Configs.{AreLawfulLeaves, IsLawfulConfig, IsNameBefore}
use Rattle.xds_config.specs.Endpoints.{IsLawfulEndpoints}
use Rattle.xds_config.specs.declared.config.Front.{Front}
use Rattle.xds_config.specs.declared.config.Leaf.{Leaf}
use Rattle.xds_config.specs.declared.config.Leaves.{Leaves}
use Rattle.xds_config.specs.declared.config.ClusterEntry.{ClusterEntry}
use Rattle.xds_config.specs.declared.config.Config.{Config}
use Rattle.aggregate_expand.specs.declared.expand_fault.ExpandFault.{ExpandFault}
use Rattle.aggregate_expand.specs.Leaves.{leaves_of}
use Rattle.xds_cache.specs.KeptFates.{Watched, fate_at, fate_of}
use Rattle.xds_cache.specs.declared.fate.Known.{Known}
use Rattle.config_assembly.specs.Orders.{Name, name_cmp, sorted}
use Rattle.config_assembly.specs.ReachedResources.{Resources, cluster_fate, resources}
use Rattle.config_assembly.specs.Front.{front, names_of}
use Rattle.config_assembly.specs.Reach.{aggregates, children_of, endpoint_name, is_wanted, keys_with, reach, reached_clusters, roots}
use Rattle.config_assembly.specs.WholeConfigs.{cluster_entry, cluster_state, endpoints_of, leaf_of, leaf_state, leaves_state}
use Rattle.config_assembly.specs.Watching.{has_key}
use Rattle.dep_manager.specs.Laws.{with_fates}
use Rattle.dep_manager.specs.CallsAlone.{AreCallsAlone, KeepsRoots}
use Rattle.dep_manager.specs.EndpointNews.{AreLawfulNews, State, Told, are_endpoints, is_awaited, is_endpoint_kind, is_told, state_in}
use Rattle.dep_manager.specs.RenewedConfigs.{leaf_with, renewed_config, renewed_entries, renewed_entry, renewed_leaf, renewed_leaves, renewed_state}
use Rattle.dep_manager.specs.KeptAssemblies.{AreChanges, IsKeptOf, config_so_far, source_of, sources_of}
use Rattle.dep_manager.specs.declared.kept_assembly.Kept.{Kept}
use Rattle.dep_manager.proofs.NewsLemmas.{unchanged}
use Rattle.dep_manager.proofs.KeptLemmas.{sources_named}
use Rattle.dep_manager.proofs.ReachSteps.{front_same, leaves_same, map_same, reach_same, roots_same, waits_same}
use Rattle.config_assembly.proofs.SortedLists.{sorted_rises}
use Rattle.dep_manager.proofs.SortedKeys.{are_kept, has_kept}

-- ---- nothing is told

none_some : {X : Type 0} (o : Option X) → is_some o ≡ false → o ≡ None
none_some None is = refl
none_some (Some x) is = absurd (cc is)

untold : (told : Told) (source : Option Key) → is_told told source ≡ false → option_and_then (state_in told) source ≡ None
untold told None is = refl
untold told (Some key) is = none_some (state_in told key) is

first_false : (a b : Bool) → (a || b) ≡ false → (a ≡ false) × (b ≡ false)
first_false true b is = absurd (true≢false is)
first_false false b is = (refl, is)

-- ---- what is told is known now, and of what isn't the same as before

module _ (r : Resources) (references : List Name) (fate : Key → Known) (told : Told)
    (at_target : fate r.target.key ≡ r.fate r.target.key)
    (at_route : (name : Name) → fate (r.key Kind.Route name) ≡ r.fate (r.key Kind.Route name))
    (at_cluster : (name : Name) → fate (r.key Kind.Cluster name) ≡ r.fate (r.key Kind.Cluster name))
    (at_none : (key : Key) → state_in told key ≡ None → fate key ≡ r.fate key)
    (at_some : (key : Key) (state : State) → state_in told key ≡ Some state → state ≡ endpoints_of (fate key)) where
  abbrev other : Resources
  other = with_fates r fate

  abbrev leaf_as : Name → State → Leaf
  leaf_as name state = record { name = name; state = state }

  leaf_told : (name : Name) (key : Key) (state : Option State) → state_in told key ≡ state → leaf_with (leaf_as name (endpoints_of (r.fate key))) state ≡ leaf_as name (endpoints_of (fate key))
  leaf_told name key None is = ap (λ known. leaf_as name (endpoints_of known)) (sym (at_none key is))
  leaf_told name key (Some state) is = ap (leaf_as name) (at_some key state is)

  leaf_at : (name : Name) (own : Known) (o : Option Name) → leaf_with (leaf_as name (leaf_state r own o)) (option_and_then (state_in told) (option_map (r.key Kind.Endpoint) o)) ≡ leaf_as name (leaf_state other own o)
  leaf_at name own None = refl
  leaf_at name own (Some endpoint) = leaf_told name (r.key Kind.Endpoint endpoint) (state_in told (r.key Kind.Endpoint endpoint)) refl

  leaf_is : (name : Name) → renewed_leaf told (leaf_of r name) (source_of r name) ≡ leaf_of other name
  leaf_is name =
      leaf_at name (cluster_fate r name) (endpoint_name (cluster_fate r name))
      ∙ ap (λ known. leaf_as name (leaf_state other known (endpoint_name known))) (sym (at_cluster name))

  abbrev keys_of_leaves : List Leaf → List (Option Key)
  keys_of_leaves leaves = map (λ leaf. source_of r leaf.name) leaves

  leaves_are : (names : List Name) → renewed_leaves told (map (leaf_of r) names) (keys_of_leaves (map (leaf_of r) names)) ≡ map (leaf_of other) names
  leaves_are [] = refl
  leaves_are (name ∷ names) = ap₂ (λ leaf leaves. leaf ∷ leaves) (leaf_is name) (leaves_are names)

  leaf_stays : (name : Name) → is_told told (source_of r name) ≡ false → leaf_of r name ≡ leaf_of other name
  leaf_stays name none = ap (leaf_with (leaf_of r name)) (sym (untold told (source_of r name) none)) ∙ leaf_is name

  leaves_stay : (names : List Name) → list_any (is_told told) (keys_of_leaves (map (leaf_of r) names)) ≡ false → map (leaf_of r) names ≡ map (leaf_of other) names
  leaves_stay [] none = refl
  leaves_stay (name ∷ names) none =
      let (first, more) = first_false (is_told told (source_of r name)) (list_any (is_told told) (keys_of_leaves (map (leaf_of r) names))) none in
      ap₂ (λ leaf leaves. leaf ∷ leaves) (leaf_stays name first) (leaves_stay names more)

  -- ---- the entry of a cluster

  state_at : (aggregate : Bool) (found : Result (List Name) ExpandFault) → renewed_state told (leaves_state r aggregate found) (sources_of r (leaves_state r aggregate found)) ≡ leaves_state other aggregate found
  state_at aggregate (Err fault) = refl
  state_at aggregate (Ok names) =
      let with : List Leaf → Result Leaves Reason = λ leaves. Ok record { aggregate = aggregate; leaves = leaves } in
      ap with (leaves_are names)

  stays_at : (aggregate : Bool) (found : Result (List Name) ExpandFault) → list_any (is_told told) (sources_of r (leaves_state r aggregate found)) ≡ false → leaves_state r aggregate found ≡ leaves_state other aggregate found
  stays_at aggregate (Err fault) none = refl
  stays_at aggregate (Ok names) none =
      let with : List Leaf → Result Leaves Reason = λ leaves. Ok record { aggregate = aggregate; leaves = leaves } in
      ap with (leaves_stay names none)

  leaves_again : (cluster : Name) → Contains (roots r references) cluster → leaves_of (aggregates other) cluster ≡ leaves_of (aggregates r) cluster
  leaves_again cluster root = leaves_same r references fate at_target (λ name named. at_route name) (λ name has. at_cluster name) cluster root

  state_is : (cluster : Name) (known : Known) → Contains (roots r references) cluster → renewed_state told (cluster_state r cluster known) (sources_of r (cluster_state r cluster known)) ≡ cluster_state other cluster known
  state_is cluster Known.Wanted root = refl
  state_is cluster (Known.Value value) root =
      state_at (is_some (children_of (Known.Value value))) (leaves_of (aggregates r) cluster)
      ∙ ap (leaves_state other (is_some (children_of (Known.Value value)))) (sym (leaves_again cluster root))
  state_is cluster (Known.Invalid reason) root = refl
  state_is cluster Known.Absent root = refl

  state_stays : (cluster : Name) (known : Known) → Contains (roots r references) cluster → list_any (is_told told) (sources_of r (cluster_state r cluster known)) ≡ false → cluster_state r cluster known ≡ cluster_state other cluster known
  state_stays cluster Known.Wanted root none = refl
  state_stays cluster (Known.Value value) root none =
      stays_at (is_some (children_of (Known.Value value))) (leaves_of (aggregates r) cluster) none
      ∙ ap (leaves_state other (is_some (children_of (Known.Value value)))) (sym (leaves_again cluster root))
  state_stays cluster (Known.Invalid reason) root none = refl
  state_stays cluster Known.Absent root none = refl

  abbrev entry_as : Name → Result Leaves Reason → ClusterEntry
  entry_as name state = record { name = name; state = state }

  abbrev keys_of : ClusterEntry → List (Option Key)
  keys_of entry = sources_of r entry.state

  entry_at : (cluster : Name) (b : Bool) → Contains (roots r references) cluster → list_any (is_told told) (keys_of (cluster_entry r cluster)) ≡ b →
      (if b then entry_as cluster (renewed_state told (cluster_entry r cluster).state (keys_of (cluster_entry r cluster))) else cluster_entry r cluster) ≡ cluster_entry other cluster
  entry_at cluster true root is =
      ap (entry_as cluster) (state_is cluster (cluster_fate r cluster) root) ∙ ap (λ known. entry_as cluster (cluster_state other cluster known)) (sym (at_cluster cluster))
  entry_at cluster false root is =
      ap (entry_as cluster) (state_stays cluster (cluster_fate r cluster) root is) ∙ ap (λ known. entry_as cluster (cluster_state other cluster known)) (sym (at_cluster cluster))

  entries_are : (names : List Name) → ((name : Name) → Contains names name → Contains (roots r references) name) →
      renewed_entries told (map (cluster_entry r) names) (map (λ entry. sources_of r entry.state) (map (cluster_entry r) names)) ≡ map (cluster_entry other) names
  entries_are [] within = refl
  entries_are (name ∷ names) within =
      ap₂ (λ entry entries. entry ∷ entries) (entry_at name (list_any (is_told told) (keys_of (cluster_entry r name))) (within name (here name names)) refl) (entries_are names (λ n has. within n (there name names n has)))

  entries_stay : (names : List Name) → ((name : Name) → Contains names name → Contains (roots r references) name) →
      list_any (list_any (is_told told)) (map (λ entry. sources_of r entry.state) (map (cluster_entry r) names)) ≡ false → map (cluster_entry r) names ≡ map (cluster_entry other) names
  entries_stay [] within none = refl
  entries_stay (name ∷ names) within none =
      let (first, more) = first_false (list_any (is_told told) (keys_of (cluster_entry r name))) (list_any (list_any (is_told told)) (map (λ entry. sources_of r entry.state) (map (cluster_entry r) names))) none in
      ap₂ (λ entry entries. entry ∷ entries) (entry_at name false (within name (here name names)) first) (entries_stay names (λ n has. within n (there name names n has)) more)

  -- ---- the configuration

  abbrev config_as : Option (Result Front Reason) → List ClusterEntry → Config
  config_as found clusters = record { front = unwrap_or found (Err Reason.Absent); clusters = clusters }

  so_far_with : (clusters : List ClusterEntry) → clusters ≡ map (cluster_entry other) (roots r references) → config_as (front r) clusters ≡ config_so_far other references
  so_far_with clusters is =
      ap₂ config_as (sym (front_same r references fate at_target (λ name named. at_route name) (λ name has. at_cluster name)))
      (is ∙ ap (map (cluster_entry other)) (sym (roots_same r references fate at_target (λ name named. at_route name) (λ name has. at_cluster name))))

  abbrev keys_of_all : List (List (Option Key))
  keys_of_all = map (λ entry. sources_of r entry.state) (map (cluster_entry r) (roots r references))

  config_at : (b : Bool) → list_any (list_any (is_told told)) keys_of_all ≡ b →
      (if b then config_as (front r) (renewed_entries told (map (cluster_entry r) (roots r references)) keys_of_all) else config_so_far r references) ≡ config_so_far other references
  config_at true is = so_far_with (renewed_entries told (map (cluster_entry r) (roots r references)) keys_of_all) (entries_are (roots r references) (λ name has. has))
  config_at false is = so_far_with (map (cluster_entry r) (roots r references)) (entries_stay (roots r references) (λ name has. has) is)

  pub config_renewed : renewed_config told (config_so_far r references) keys_of_all ≡ config_so_far other references
  config_renewed = config_at (list_any (list_any (is_told told)) keys_of_all) refl

  -- ---- the keys of leaves

  source_again : (name : Name) → source_of r name ≡ source_of other name
  source_again name = ap (λ known. option_map (r.key Kind.Endpoint) (endpoint_name known)) (sym (at_cluster name))

  sources_at : (aggregate : Bool) (found : Result (List Name) ExpandFault) → sources_of r (leaves_state r aggregate found) ≡ sources_of other (leaves_state other aggregate found)
  sources_at aggregate (Err fault) = refl
  sources_at aggregate (Ok names) = sources_named r r names ∙ map_same (source_of r) (source_of other) names (λ name has. source_again name) ∙ sym (sources_named other other names)

  sources_again_at : (cluster : Name) (known : Known) → Contains (roots r references) cluster → sources_of r (cluster_state r cluster known) ≡ sources_of other (cluster_state other cluster known)
  sources_again_at cluster Known.Wanted root = refl
  sources_again_at cluster (Known.Value value) root =
      sources_at (is_some (children_of (Known.Value value))) (leaves_of (aggregates r) cluster)
      ∙ ap (λ found. sources_of other (leaves_state other (is_some (children_of (Known.Value value))) found)) (sym (leaves_again cluster root))
  sources_again_at cluster (Known.Invalid reason) root = refl
  sources_again_at cluster Known.Absent root = refl

  sources_again : (names : List Name) → ((name : Name) → Contains names name → Contains (roots r references) name) →
      map (λ entry. sources_of r entry.state) (map (cluster_entry r) names) ≡ map (λ entry. sources_of other entry.state) (map (cluster_entry other) names)
  sources_again [] within = refl
  sources_again (name ∷ names) within =
      ap₂ (λ keys all. keys ∷ all)
      (sources_again_at name (cluster_fate r name) (within name (here name names)) ∙ ap (λ known. sources_of other (cluster_state other name known)) (sym (at_cluster name)))
      (sources_again names (λ n has. within n (there name names n has)))

  pub sources_renewed : keys_of_all ≡ map (λ entry. sources_of other entry.state) (config_so_far other references).clusters
  sources_renewed =
      sources_again (roots r references) (λ name has. has)
      ∙ ap (λ names. map (λ entry. sources_of other entry.state) (map (cluster_entry other) names)) (sym (roots_same r references fate at_target (λ name named. at_route name) (λ name has. at_cluster name)))

-- ---- what is lawful

pairs_by : {X Y : Type 0} (f : X → Y) (R : Y → Y → Type 0) (xs ys : List X) → map f ys ≡ map f xs → AllPairs (λ a b. R (f a) (f b)) xs → AllPairs (λ a b. R (f a) (f b)) ys
pairs_by f R xs ys same pairs i j d less within =
    let longs : length ys ≡ length xs = sym (length-map ys f) ∙ ap length same ∙ length-map xs f in
    let of : (k : ℕ) → k < length ys → f (get_or xs k d) ≡ f (get_or ys k d) =
    λ k at. sym (get_or-map f xs k d (f d) (subst (λ n. k < n) longs at)) ∙ ap (λ zs. get_or zs k (f d)) (sym same) ∙ get_or-map f ys k d (f d) at in
    subst (λ y. R y (f (get_or ys j d))) (of i (omega (arith, less, within)))
    (subst (λ y. R (f (get_or xs i d)) y) (of j within) (pairs i j d less (subst (λ n. j < n) longs within)))

renewed_name : (entry : ClusterEntry) (state : Result Leaves Reason) (b : Bool) → (if b then record { name = entry.name; state = state } else entry).name ≡ entry.name
renewed_name entry state true = refl
renewed_name entry state false = refl

-- entries that are renewed keep their names
pub renewed_names : (told : Told) (entries : List ClusterEntry) (sources : List (List (Option Key))) →
    map (λ c. c.name) (renewed_entries told entries sources) ≡ take (length (renewed_entries told entries sources)) (map (λ c. c.name) entries)
renewed_names told [] [] = refl
renewed_names told [] (keys ∷ sources) = refl
renewed_names told (entry ∷ entries) [] = refl
renewed_names told (entry ∷ entries) (keys ∷ sources) =
    ap₂ (λ name names. name ∷ names) (renewed_name entry (renewed_state told entry.state keys) (list_any (is_told told) keys)) (renewed_names told entries sources)

leaf_named : (leaf : Leaf) (state : Option State) → (leaf_with leaf state).name ≡ leaf.name
leaf_named leaf None = refl
leaf_named leaf (Some state) = refl

module _ (r : Resources) (told : Told) (news : AreLawfulNews told) where
  abbrev leaf_keys : List Leaf → List (Option Key)
  leaf_keys leaves = map (λ leaf. source_of r leaf.name) leaves

  leaves_named : (leaves : List Leaf) → map (λ leaf. leaf.name) (renewed_leaves told leaves (leaf_keys leaves)) ≡ map (λ leaf. leaf.name) leaves
  leaves_named [] = refl
  leaves_named (leaf ∷ leaves) = ap₂ (λ name names. name ∷ names) (leaf_named leaf (option_and_then (state_in told) (source_of r leaf.name))) (leaves_named leaves)

  state_lawful : (leaf : Leaf) (state : Option State) → IfOk leaf.state IsLawfulEndpoints → IfSome state (λ s. IfOk s IsLawfulEndpoints) → IfOk (leaf_with leaf state).state IsLawfulEndpoints
  state_lawful leaf None lawful new = lawful
  state_lawful leaf (Some state) lawful new = new

  source_lawful : (source : Option Key) → IfSome (option_and_then (state_in told) source) (λ s. IfOk s IsLawfulEndpoints)
  source_lawful None = tt
  source_lawful (Some key) = news key

  endpoints_lawful : (leaves : List Leaf) → All (λ leaf. IfOk leaf.state IsLawfulEndpoints) leaves → All (λ leaf. IfOk leaf.state IsLawfulEndpoints) (renewed_leaves told leaves (leaf_keys leaves))
  endpoints_lawful [] lawful = lawful
  endpoints_lawful (leaf ∷ leaves) lawful =
      All-cons (λ leaf. IfOk leaf.state IsLawfulEndpoints) (renewed_leaf told leaf (source_of r leaf.name)) (renewed_leaves told leaves (leaf_keys leaves))
      (state_lawful leaf (option_and_then (state_in told) (source_of r leaf.name)) (lawful 0 leaf (omega arith)) (source_lawful (source_of r leaf.name)))
      (endpoints_lawful leaves (λ k d less. lawful (suc k) d (omega (arith, less))))

  leaves_long : (leaves : List Leaf) → length (renewed_leaves told leaves (leaf_keys leaves)) ≡ length leaves
  leaves_long leaves =
      sym (length-map (renewed_leaves told leaves (leaf_keys leaves)) (λ leaf. leaf.name)) ∙ ap length (leaves_named leaves) ∙ length-map leaves (λ leaf. leaf.name)

  leaves_lawful : (leaves : Leaves) → AreLawfulLeaves leaves → AreLawfulLeaves (record { aggregate = leaves.aggregate; leaves = renewed_leaves told leaves.leaves (leaf_keys leaves.leaves) })
  leaves_lawful leaves lawful = record {
    some = subst (λ n. 0 < n) (sym (leaves_long leaves.leaves)) lawful.some;
    once = pairs_by (λ leaf. leaf.name) (λ a b. a ≢ b) leaves.leaves (renewed_leaves told leaves.leaves (leaf_keys leaves.leaves)) (leaves_named leaves.leaves) lawful.once;
    endpoints = endpoints_lawful leaves.leaves lawful.endpoints;
    few = subst (λ n. n < 2 ^ 31) (sym (leaves_long leaves.leaves)) lawful.few;
  }

  entry_state : (state : Result Leaves Reason) → IfOk state AreLawfulLeaves → IfOk (renewed_state told state (sources_of r state)) AreLawfulLeaves
  entry_state (Ok leaves) lawful = leaves_lawful leaves lawful
  entry_state (Err reason) lawful = tt

  entry_lawful : (entry : ClusterEntry) (b : Bool) → IfOk entry.state AreLawfulLeaves → IfOk (if b then record { name = entry.name; state = renewed_state told entry.state (sources_of r entry.state) } else entry).state AreLawfulLeaves
  entry_lawful entry true lawful = entry_state entry.state lawful
  entry_lawful entry false lawful = lawful

  abbrev entry_keys : List ClusterEntry → List (List (Option Key))
  entry_keys entries = map (λ entry. sources_of r entry.state) entries

  entries_lawful : (entries : List ClusterEntry) → All (λ c. IfOk c.state AreLawfulLeaves) entries → All (λ c. IfOk c.state AreLawfulLeaves) (renewed_entries told entries (entry_keys entries))
  entries_lawful [] lawful = lawful
  entries_lawful (entry ∷ entries) lawful =
      All-cons (λ c. IfOk c.state AreLawfulLeaves) (renewed_entry told entry (sources_of r entry.state)) (renewed_entries told entries (entry_keys entries))
      (entry_lawful entry (list_any (is_told told) (sources_of r entry.state)) (lawful 0 entry (omega arith)))
      (entries_lawful entries (λ k d less. lawful (suc k) d (omega (arith, less))))

  entries_named : (entries : List ClusterEntry) → map (λ c. c.name) (renewed_entries told entries (entry_keys entries)) ≡ map (λ c. c.name) entries
  entries_named [] = refl
  entries_named (entry ∷ entries) = ap₂ (λ name names. name ∷ names) (renewed_name entry (renewed_state told entry.state (sources_of r entry.state)) (list_any (is_told told) (sources_of r entry.state))) (entries_named entries)

  entries_long : (entries : List ClusterEntry) → length (renewed_entries told entries (entry_keys entries)) ≡ length entries
  entries_long entries = sym (length-map (renewed_entries told entries (entry_keys entries)) (λ c. c.name)) ∙ ap length (entries_named entries) ∙ length-map entries (λ c. c.name)

  config_with : (config : Config) (b : Bool) → IsLawfulConfig config → IsLawfulConfig (if b then record { front = config.front; clusters = renewed_entries told config.clusters (entry_keys config.clusters) } else config)
  config_with config true lawful = record {
    front = lawful.front;
    clusters = entries_lawful config.clusters lawful.clusters;
    rising = pairs_by (λ c. c.name) IsNameBefore config.clusters (renewed_entries told config.clusters (entry_keys config.clusters)) (entries_named config.clusters) lawful.rising;
    few = subst (λ n. n < 2 ^ 31) (sym (entries_long config.clusters)) lawful.few;
  }
  config_with config false lawful = lawful

  pub config_lawful : (config : Config) → IsLawfulConfig config → IsLawfulConfig (renewed_config told config (entry_keys config.clusters))
  config_lawful config lawful = config_with config (list_any (list_any (is_told told)) (entry_keys config.clusters)) lawful

-- ---- the front

-- where Endpoint keys changed, the front is the same
pub front_stays : (entries : List AuthorityEntry) (known now : Watched) (target : Target) (changed : List Key) (references : List Name) → target.key.kind ≡ Kind.Listener → are_endpoints changed ≡ true → AreChanges known now changed →
    front (resources target entries now) ≡ front (resources target entries known)
front_stays entries known now target changed references listener endpoints changes =
    let of_kind : (key : Key) → is_endpoint_kind key.kind ≡ false → fate_of now key ≡ fate_of known key = λ key other. ap (fate_at key.home) (changes.others key (unchanged changed key endpoints other)) in
    let r : Resources = resources target entries known in
    front_same r references (fate_of now) (of_kind target.key (ap is_endpoint_kind listener)) (λ name named. of_kind (r.key Kind.Route name) refl) (λ name has. of_kind (r.key Kind.Cluster name) refl)

-- and so are the roots, where calls refer to the same clusters
pub kept_roots : (entries : List AuthorityEntry) (known now : Watched) (target : Target) (changed : List Key) (before after : List Name) → target.key.kind ≡ Kind.Listener → are_endpoints changed ≡ true → AreChanges known now changed →
    KeepsRoots (resources target entries now) before after → KeepsRoots (resources target entries known) before after
kept_roots entries known now target changed before after listener endpoints changes keeps =
    subst (λ found. sorted name_cmp (names_of found ++ after) ≡ sorted name_cmp (names_of found ++ before)) (front_stays entries known now target changed before listener endpoints changes) keeps

-- ---- all that is kept

module _ (entries : List AuthorityEntry) (known now : Watched) (target : Target) (reached changed : List Key) (told : Told) (last : Kept)
    (listener : target.key.kind ≡ Kind.Listener) (endpoints : are_endpoints changed ≡ true)
    (is : IsKeptOf entries known target reached last) (changes : AreChanges known now changed)
    (news : (key : Key) → state_in told key ≡ (if has_key changed key then Some (endpoints_of (fate_of now key)) else None)) where
  abbrev r : Resources
  r = resources target entries known

  stays : (key : Key) → has_key changed key ≡ false → fate_of now key ≡ fate_of known key
  stays key other = ap (fate_at key.home) (changes.others key other)

  of_kind : (key : Key) → is_endpoint_kind key.kind ≡ false → fate_of now key ≡ fate_of known key
  of_kind key other = stays key (unchanged changed key endpoints other)

  no_listener : fate_of now target.key ≡ fate_of known target.key
  no_listener = of_kind target.key (ap is_endpoint_kind listener)

  none_at : (key : Key) (b : Bool) → has_key changed key ≡ b → (if b then Some (endpoints_of (fate_of now key)) else None) ≡ None → fate_of now key ≡ fate_of known key
  none_at key true has none = absurd (cc none)
  none_at key false has none = stays key has

  at_none : (key : Key) → state_in told key ≡ None → fate_of now key ≡ fate_of known key
  at_none key none = none_at key (has_key changed key) refl (sym (news key) ∙ none)

  some_at : (key : Key) (state : State) (b : Bool) → (if b then Some (endpoints_of (fate_of now key)) else None) ≡ Some state → state ≡ endpoints_of (fate_of now key)
  some_at key state true some = cc some
  some_at key state false some = absurd (cc some)

  at_some : (key : Key) (state : State) → state_in told key ≡ Some state → state ≡ endpoints_of (fate_of now key)
  at_some key state some = some_at key state (has_key changed key) (sym (news key) ∙ some)

  awaited_at : (key : Key) (b waits : Bool) → has_key changed key ≡ b → waits ≡ (is_wanted (fate_of known key) && has_key reached key) → (if b then is_awaited now key else waits) ≡ (is_wanted (fate_of now key) && has_key reached key)
  awaited_at key true waits has was = ap (λ watched. is_wanted (fate_of now key) && watched) (changes.watched key ∙ is.watched key)
  awaited_at key false waits has was = was ∙ ap (λ fate. is_wanted fate && has_key reached key) (sym (stays key has))

  rising : IsStrictlySortedBy key_cmp reached
  rising = subst (IsStrictlySortedBy key_cmp) (sym is.assembled.reached_are) (sorted_rises key_cmp key_total (keys_with r (reached_clusters r last.references)))

  abbrev waits_before : Key → Bool
  waits_before key = is_wanted (fate_of known key)

  rose : IsStrictlySortedBy key_cmp last.awaited.keys
  rose = subst (IsStrictlySortedBy key_cmp) (sym is.assembled.awaited_are) (IsStrictlySortedBy-filter key_cmp waits_before reached rising)

  awaited_now : (awaited : List Key) → ((key : Key) → has_key awaited key ≡ (if has_key changed key then is_awaited now key else has_key last.awaited.keys key)) → IsStrictlySortedBy key_cmp awaited →
      awaited ≡ filter (λ key. is_wanted (fate_of now key)) reached
  awaited_now awaited have also =
      are_kept (λ key. is_wanted (fate_of now key)) reached awaited rising also
      (λ key. have key ∙ awaited_at key (has_key changed key) (has_key last.awaited.keys key) refl (ap (λ keys. has_key keys key) is.assembled.awaited_are ∙ has_kept waits_before reached key))

  pub renewed_by : (kept : Kept) → AreLawfulNews told → kept.references ≡ last.references → kept.calls_alone ≡ last.calls_alone → kept.sources ≡ last.sources → kept.config ≡ renewed_config told last.config last.sources →
      ((key : Key) → has_key kept.awaited.keys key ≡ (if has_key changed key then is_awaited now key else has_key last.awaited.keys key)) → (IsStrictlySortedBy key_cmp last.awaited.keys → IsStrictlySortedBy key_cmp kept.awaited.keys) →
      IsKeptOf entries now target reached kept
  renewed_by kept lawful references alone sources config awaited rises =
      let fate : Key → Known = fate_of now in
      let route : (name : Name) → fate (r.key Kind.Route name) ≡ r.fate (r.key Kind.Route name) = λ name. of_kind (r.key Kind.Route name) refl in
      let cluster : (name : Name) → fate (r.key Kind.Cluster name) ≡ r.fate (r.key Kind.Cluster name) = λ name. of_kind (r.key Kind.Cluster name) refl in
      let before : last.sources ≡ map (λ entry. sources_of r entry.state) (config_so_far r last.references).clusters =
      is.assembled.sources_are ∙ ap (λ c. map (λ entry. sources_of r entry.state) c.clusters) is.assembled.config_is in
      let made : kept.config ≡ config_so_far (with_fates r fate) last.references =
      config ∙ ap₂ (renewed_config told) is.assembled.config_is before ∙ config_renewed r last.references fate told no_listener route cluster at_none at_some in
      record {
        assembled = record {
          reached_are = is.assembled.reached_are ∙ sym (reach_same r last.references fate no_listener (λ name named. route name) (λ name has. cluster name)) ∙ ap (reach (with_fates r fate)) (sym references);
          awaited_are = awaited_now kept.awaited.keys awaited (rises rose);
          config_is = made ∙ ap (config_so_far (with_fates r fate)) (sym references);
          sources_are = sources ∙ before ∙ sources_renewed r last.references fate told no_listener route cluster at_none at_some ∙ ap (λ c. map (λ entry. sources_of (with_fates r fate) entry.state) c.clusters) (sym made);
          front_waits = waits_same r last.references fate no_listener (λ name named. route name) (λ name has. cluster name) is.assembled.front_waits;
          alone_are = subst (λ found. AreCallsAlone (names_of found) kept.references kept.calls_alone) (sym (front_stays entries known now target changed last.references listener endpoints changes)) (subst (λ names. AreCallsAlone (names_of (front r)) names kept.calls_alone) (sym references) (subst (AreCallsAlone (names_of (front r)) last.references) (sym alone) is.assembled.alone_are));
        };
        watched = λ key. changes.watched key ∙ is.watched key;
        lawful = subst IsLawfulConfig (sym (config ∙ ap (renewed_config told last.config) is.assembled.sources_are)) (config_lawful r told lawful last.config is.lawful);
      }
