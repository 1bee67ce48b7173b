-- What is reached rests on what is known of the listener, the routes and the clusters.
use Rattle.std.proofs.Common.{◌≡◌, inl, inr, ℕ, zero, suc, ◌<◌, arith, Bool, true, false, ◌||◌, cond, Option, Some, None, Ok, Err, List, [], ◌∷◌, ◌++◌, map, length, refl, sym, ap, ap₂, ◌∙◌, subst, slice_get, if◌then◌else◌, option_and_then, option_to_list, unwrap_or}
use Rattle.std.specs.Prelude.{Contains}
use Rattle.std.specs.List.{cons_option, filter_map, find, flat_map}
use Rattle.std.proofs.lemmas.Bool.{cases_lt, true≢false}
use Rattle.std.proofs.lemmas.List.Elements.{Contains-append_left, Contains-append_right}
use Rattle.std.proofs.lemmas.Option.{get_or_from_slice_get, slice_get_within}
use Rattle.std.proofs.lemmas.Map.Lookups.{exact_bytes}
use Rattle.xc_base.specs.declared.names.Kind.{Kind}
use Rattle.xc_base.specs.declared.names.Key.{Key}
use Rattle.xc_keys.specs.Keys.{is_key, key_cmp}
use Rattle.xc_keys.proofs.KeyLemmas.{key_itself}
use Rattle.xc_keys.proofs.MemberLemmas.{no_member, here, there, at_first}
use Rattle.xds_config.specs.declared.value.Value.{Value}
use Rattle.xds_config.specs.declared.listener_values.RoutesFrom.{RoutesFrom}
use Rattle.aggregate_expand.specs.declared.expand_fault.ExpandFault.TheVariants.{Depth}
use Rattle.aggregate_expand.specs.Chains.{Table, led_to, longest_chain}
use Rattle.aggregate_expand.specs.LeafLaws.{AgreeOnChains}
use Rattle.aggregate_expand.specs.Leaves.{ends, goes_on, leaves_of, leaves_within}
use Rattle.aggregate_expand.specs.LookedUp.{with_names}
use Rattle.aggregate_expand.proofs.ChainLemmas.{goes_along}
use Rattle.aggregate_expand.proofs.LawLemmas.{are_led_to, leaves_rest_on_chains}
use Rattle.xds_cache.specs.declared.fate.Known.{Known}
use Rattle.config_assembly.specs.Orders.{Name, name_cmp, sorted}
use Rattle.config_assembly.specs.ReachedResources.{Resources, cluster_fate}
use Rattle.config_assembly.specs.Front.{IsFrontAwaited, front, front_from, front_of_listener, front_of_route_value, given, named_in, named_routes, names_of}
use Rattle.config_assembly.specs.Reach.{aggregates, children_among, children_of, endpoint_name, endpoint_names, keys_with, on_chains, reach, reached_clusters, roots}
use Rattle.config_assembly.specs.Watching.{has_key}
use Rattle.dep_manager.specs.Laws.{with_fates}
use Rattle.config_assembly.proofs.Members.{in_joined, in_sorted}

-- ---- lists, member by member

each_more : {X : Type 0} (P : X → Type 0) (x : X) (xs : List X) → ((y : X) → Contains (x ∷ xs) y → P y) → (y : X) → Contains xs y → P y
each_more P x xs each y has = each y (there x xs y has)

pub map_same : {X Y : Type 0} (f g : X → Y) (xs : List X) → ((x : X) → Contains xs x → f x ≡ g x) → map f xs ≡ map g xs
map_same f g [] each = refl
map_same f g (x ∷ xs) each = ap₂ (λ y ys. y ∷ ys) (each x (here x xs)) (map_same f g xs (each_more (λ y. f y ≡ g y) x xs each))

joined_same : {X Y : Type 0} (f g : X → List Y) (xs : List X) → ((x : X) → Contains xs x → f x ≡ g x) → flat_map f xs ≡ flat_map g xs
joined_same f g [] each = refl
joined_same f g (x ∷ xs) each = ap₂ (λ ys zs. ys ++ zs) (each x (here x xs)) (joined_same f g xs (each_more (λ y. f y ≡ g y) x xs each))

chosen_same : {X Y : Type 0} (f g : X → Option Y) (xs : List X) → ((x : X) → Contains xs x → f x ≡ g x) → filter_map f xs ≡ filter_map g xs
chosen_same f g [] each = refl
chosen_same f g (x ∷ xs) each = ap₂ (λ o ys. cons_option o ys) (each x (here x xs)) (chosen_same f g xs (each_more (λ y. f y ≡ g y) x xs each))

pub found_same : {X : Type 0} (p q : X → Bool) (xs : List X) → ((x : X) → Contains xs x → p x ≡ q x) → find p xs ≡ find q xs
found_same p q [] each = refl
found_same p q (x ∷ xs) each = ap₂ (λ b o. cond b (Some x) o) (each x (here x xs)) (found_same p q xs (each_more (λ y. p y ≡ q y) x xs each))

kept_option : {Y : Type 0} (o : Option Y) (y : Y) (ys : List Y) → Contains ys y → Contains (cons_option o ys) y
kept_option None y ys has = has
kept_option (Some x) y ys has = there x ys y has

pub in_chosen : {X Y : Type 0} (f : X → Option Y) (xs : List X) (x : X) (y : Y) → Contains xs x → f x ≡ Some y → Contains (filter_map f xs) y
in_chosen f [] x y has is = absurd (no_member x has)
in_chosen f (z ∷ xs) x y has is =
    elim (at_first z x xs has) [
      | inl same ↦ subst (λ o. Contains (cons_option o (filter_map f xs)) y) (sym (ap f same ∙ is)) (here y (filter_map f xs))
      | inr later ↦ kept_option (f z) y (filter_map f xs) (in_chosen f xs x y later is)
    ]

pub has_member : (keys : List Key) (key : Key) → Contains keys key → has_key keys key ≡ true
has_member [] key has = absurd (no_member key has)
has_member (k ∷ keys) key has =
    elim (at_first k key keys has) [
      | inl same ↦ subst (λ b. (b || has_key keys key) ≡ true) (sym (subst (λ x. is_key key x ≡ true) (sym same) (key_itself key))) refl
      | inr later ↦ or_more (is_key key k) (has_key keys key) (has_member keys key later)
    ]
  where
    or_more : (b more : Bool) → more ≡ true → (b || more) ≡ true
    or_more true more is = refl
    or_more false more is = is

-- ---- chains

abbrev children_next : Table → List Name → List Name
children_next table names = sorted name_cmp (flat_map (children_among table) names)

led_child : (table : Table) (names : List Name) (cluster name : Name) (path : List ℕ) (place : ℕ) (Goal : Type 0) → Contains names cluster → ((child : Name) → Contains (children_next table names) child → led_to table path child ≡ Some name → Goal) →
    (children : List Name) (child : Option Name) → table cluster ≡ Some children → slice_get children place ≡ child → option_and_then (led_to table path) child ≡ Some name → Goal
led_child table names cluster name path place Goal has deeper children None is at led = absurd (cc led)
led_child table names cluster name path place Goal has deeper children (Some child) is at led =
    let own : Contains children child = (place, slice_get_within children place child at, get_or_from_slice_get children place child child at) in
    let among : Contains (children_among table cluster) child = subst (λ o. Contains (unwrap_or o []) child) (sym is) own in
    deeper child (in_sorted name_cmp exact_bytes (flat_map (children_among table) names) child (in_joined (children_among table) names cluster child has among)) led

led_on : (table : Table) (names : List Name) (cluster name : Name) (path : List ℕ) (place : ℕ) (Goal : Type 0) → Contains names cluster → ((child : Name) → Contains (children_next table names) child → led_to table path child ≡ Some name → Goal) →
    (o : Option (List Name)) → table cluster ≡ o → option_and_then (led_to table path) (option_and_then (λ children. slice_get children place) o) ≡ Some name → Goal
led_on table names cluster name path place Goal has deeper None is led = absurd (cc led)
led_on table names cluster name path place Goal has deeper (Some children) is led = led_child table names cluster name path place Goal has deeper children (slice_get children place) is refl led

-- what a short list of child places leads to is on a chain
on_chain : (table : Table) (n : ℕ) (names : List Name) (path : List ℕ) (cluster name : Name) → Contains names cluster → length path < n → led_to table path cluster ≡ Some name → Contains (on_chains table n names) name
on_chain table zero names path cluster name has short led = absurd (omega (arith, short))
on_chain table (suc more) names [] cluster name has short led =
    let same : cluster ≡ name = cc led in
    Contains-append_left names (on_chains table more (children_next table names)) name (subst (λ x. Contains names x) same has)
on_chain table (suc more) names (place ∷ path) cluster name has short led =
    Contains-append_right names (on_chains table more (children_next table names)) name
    (led_on table names cluster name path place (Contains (on_chains table more (children_next table names)) name) has
    (λ child own rest. on_chain table more (children_next table names) path child name own (omega (arith, short)) rest) (table cluster) refl led)

chains_same : (table other : Table) (n : ℕ) (names : List Name) → ((name : Name) → Contains (on_chains table n names) name → other name ≡ table name) → on_chains other n names ≡ on_chains table n names
chains_same table other zero names each = refl
chains_same table other (suc more) names each =
    let now : flat_map (children_among other) names ≡ flat_map (children_among table) names =
    joined_same (children_among other) (children_among table) names (λ name has. ap (λ o. unwrap_or o []) (each name (Contains-append_left names (on_chains table more (children_next table names)) name has))) in
    ap (λ xs. names ++ on_chains other more (sorted name_cmp xs)) now
    ∙ ap (λ xs. names ++ xs) (chains_same table other more (children_next table names) (λ name has. each name (Contains-append_right names (on_chains table more (children_next table names)) name has)))

ok_free : (b : Bool) (found names : List Name) → (if b then Err Depth else Ok found) ≡ Ok names → b ≡ false
ok_free true found names is = absurd (cc is)
ok_free false found names is = refl

no_longer : (table : Table) (cluster : Name) (names : List Name) → leaves_of table cluster ≡ Ok names → goes_on table longest_chain cluster ≡ false
unfolding leaves_within
no_longer table cluster names is = ok_free (goes_on table longest_chain cluster) (with_names [] (ends table longest_chain cluster)) names is

-- a leaf of a cluster is on a chain that begins with it
pub leaf_on_chain : (table : Table) (starts : List Name) (cluster : Name) (names : List Name) (leaf : Name) → Contains starts cluster → leaves_of table cluster ≡ Ok names → Contains names leaf → Contains (on_chains table longest_chain starts) leaf
leaf_on_chain table starts cluster names leaf has is own =
    let (path, (led, ends)) = (((are_led_to table cluster).leaves names).0 is).0.led leaf own in
    elim (cases_lt (length path) longest_chain) [
      | inl short ↦ on_chain table longest_chain starts path cluster leaf has short led
      | inr long ↦ absurd (true≢false (sym (goes_along table longest_chain path cluster leaf long led) ∙ no_longer table cluster names is))
    ]

-- ---- the same is known of all that decides what is reached

module _ (r : Resources) (references : List Name) (fate : Key → Known)
    (at_target : fate r.target.key ≡ r.fate r.target.key)
    (at_route : (name : Name) → named_routes (r.fate r.target.key) ≡ Some name → fate (r.key Kind.Route name) ≡ r.fate (r.key Kind.Route name))
    (at_cluster : (name : Name) → Contains (reached_clusters r references) name → cluster_fate (with_fates r fate) name ≡ cluster_fate r name) where
  abbrev other : Resources
  other = with_fates r fate

  abbrev reached : List Name
  reached = reached_clusters r references

  abbrev route_keys : List Key
  route_keys = map (r.key Kind.Route) (option_to_list (named_routes (r.fate r.target.key)))

  abbrev cluster_keys : List Key
  cluster_keys = map (r.key Kind.Cluster) reached

  -- ---- the front

  front_from_same : (listener : Name) (routes : RoutesFrom) → named_routes (r.fate r.target.key) ≡ named_in routes → front_from other listener routes ≡ front_from r listener routes
  front_from_same listener (RoutesFrom.Inline routes) is = refl
  front_from_same listener (RoutesFrom.Named name) is = ap (λ known. given known (front_of_route_value r listener)) (at_route name is)

  front_given : (known : Known) → r.fate r.target.key ≡ known → given known (front_of_listener other) ≡ given known (front_of_listener r)
  front_given Known.Wanted is = refl
  front_given (Known.Value (Value.Listener listener)) is = front_from_same listener.name listener.routes (ap named_routes is)
  front_given (Known.Value (Value.Route routes)) is = refl
  front_given (Known.Value (Value.Cluster cluster)) is = refl
  front_given (Known.Value (Value.Endpoint endpoints)) is = refl
  front_given (Known.Invalid reason) is = refl
  front_given Known.Absent is = refl

  pub front_same : front other ≡ front r
  front_same = ap (λ known. given known (front_of_listener other)) at_target ∙ front_given (r.fate r.target.key) refl

  -- ---- the clusters

  abbrev chained : List Name
  chained = on_chains (aggregates r) longest_chain (roots r references)

  pub is_reached : (name : Name) → Contains chained name → Contains reached name
  is_reached name has = in_sorted name_cmp exact_bytes chained name has

  pub roots_same : roots other references ≡ roots r references
  roots_same = ap (λ o. sorted name_cmp (names_of o ++ references)) front_same

  chained_same : on_chains (aggregates other) longest_chain (roots r references) ≡ chained
  chained_same = chains_same (aggregates r) (aggregates other) longest_chain (roots r references) (λ name has. ap children_of (at_cluster name (is_reached name has)))

  reached_same : reached_clusters other references ≡ reached
  reached_same = ap (λ names. sorted name_cmp (on_chains (aggregates other) longest_chain names)) roots_same ∙ ap (λ names. sorted name_cmp names) chained_same

  -- ---- the keys

  endpoints_same : endpoint_names other reached ≡ endpoint_names r reached
  endpoints_same = chosen_same (λ name. endpoint_name (cluster_fate other name)) (λ name. endpoint_name (cluster_fate r name)) reached (λ name has. ap endpoint_name (at_cluster name has))

  keys_same : keys_with other reached ≡ keys_with r reached
  keys_same =
      ap (λ known. r.target.key ∷ (map (r.key Kind.Route) (option_to_list (named_routes known)) ++ (cluster_keys ++ map (r.key Kind.Endpoint) (endpoint_names other reached)))) at_target
      ∙ ap (λ names. r.target.key ∷ (route_keys ++ (cluster_keys ++ map (r.key Kind.Endpoint) names))) endpoints_same

  pub reach_same : reach other references ≡ reach r references
  reach_same = ap (λ names. sorted key_cmp (keys_with other names)) reached_same ∙ ap (λ keys. sorted key_cmp keys) keys_same

  -- ---- the leaves

  pub root_chained : (name : Name) → Contains (roots r references) name → Contains chained name
  root_chained name has = on_chain (aggregates r) longest_chain (roots r references) [] name name has (omega arith) refl

  agree_on_chains : (cluster : Name) → Contains (roots r references) cluster → AgreeOnChains (aggregates r) (aggregates other) cluster
  agree_on_chains cluster root path name short led = ap children_of (at_cluster name (is_reached name (on_chain (aggregates r) longest_chain (roots r references) path cluster name root short led)))

  pub leaves_same : (cluster : Name) → Contains (roots r references) cluster → leaves_of (aggregates other) cluster ≡ leaves_of (aggregates r) cluster
  leaves_same cluster root = leaves_rest_on_chains (aggregates r) (aggregates other) cluster (agree_on_chains cluster root)

  pub waits_same : (front r ≡ None → IsFrontAwaited r) → front other ≡ None → IsFrontAwaited other
  waits_same waits none =
      elim (waits (sym front_same ∙ none)) [
        | inl wanted ↦ inl (at_target ∙ wanted)
        | inr (name, named, wanted) ↦ inr (name, ap named_routes at_target ∙ named, at_route name named ∙ wanted)
      ]
