-- What is reached, by chains.
use Rattle.std.proofs.Common.{◌≡◌, inl, inr, ℕ, zero, suc, ◌<◌, arith, true, Option, Some, None, List, [], ◌∷◌, ◌++◌, map, length, refl, sym, ap, ◌∙◌, subst, slice_get, option_and_then, option_to_list, unwrap_or}
use Rattle.std.specs.Prelude.{Contains, ◌↔◌}
use Rattle.std.specs.List.{cons_option, filter_map, flat_map}
use Rattle.std.specs.Cmp.Lexicographic.{nat_list_eq_equiv}
use Rattle.std.proofs.lemmas.List.Elements.{Contains-append_left, Contains-append_right, Contains-append_cases}
use Rattle.std.proofs.lemmas.Map.Lookups.{exact_bytes}
use Rattle.std.proofs.lemmas.Map.Views.{Contains-from_any, list_any-from_Contains}
use Rattle.std.proofs.lemmas.Option.{slice_get-get_or}
use Rattle.std.proofs.lemmas.Slice.Eq.{bytes_eq-Decides}
use Rattle.xc_base.specs.declared.names.Kind.{Kind}
use Rattle.xc_base.specs.declared.names.Key.{Key}
use Rattle.xc_keys.specs.Keys.{key_cmp}
use Rattle.xc_keys.proofs.KeyLemmas.{exact_keys, is_key_equiv, same_key}
use Rattle.xc_keys.proofs.MemberLemmas.{no_member, there, at_first, mapped, from_mapped}
use Rattle.aggregate_expand.specs.Chains.{Table, led_to, longest_chain}
use Rattle.config_assembly.specs.Orders.{Name, name_cmp, sorted}
use Rattle.config_assembly.specs.ReachedResources.{Resources, cluster_fate}
use Rattle.config_assembly.specs.Front.{named_routes}
use Rattle.config_assembly.specs.Reach.{aggregates, children_among, endpoint_name, endpoint_names, keys_with, on_chains, reach, reached_clusters, roots}
use Rattle.config_assembly.specs.Watching.{has_key}
use Rattle.dep_manager.specs.Laws.{IsClusterKey, IsEndpointKey, IsOnChain, IsReached, IsRouteKey}
use Rattle.dep_manager.proofs.ReachSteps.{in_chosen}
use Rattle.config_assembly.proofs.Members.{from_joined, from_option, from_sorted, in_sorted}
use Rattle.config_assembly.proofs.ReachLemmas.{has_route, has_target, led_on}

-- ---- lists

chosen_first : {Y : Type 0} (o : Option Y) (ys : List Y) → cons_option o ys ≡ option_to_list o ++ ys
chosen_first None ys = refl
chosen_first (Some y) ys = refl

-- what is chosen of each, as joined lists
chosen_joined : {X Y : Type 0} (f : X → Option Y) (xs : List X) → filter_map f xs ≡ flat_map (λ x. option_to_list (f x)) xs
chosen_joined f [] = refl
chosen_joined f (x ∷ xs) = chosen_first (f x) (filter_map f xs) ∙ ap (λ ys. option_to_list (f x) ++ ys) (chosen_joined f xs)

from_chosen : {X Y : Type 0} (f : X → Option Y) (xs : List X) (y : Y) → Contains (filter_map f xs) y → (x : X) × Contains xs x × (f x ≡ Some y)
from_chosen f xs y has =
    let (x, has_x, own) = from_joined (λ z. option_to_list (f z)) xs y (subst (λ ys. Contains ys y) (chosen_joined f xs) has) in
    (x, has_x, from_option (f x) y own)

-- ---- chains

child_place : (children : Option (List Name)) (child : Name) → Contains (unwrap_or children []) child → (place : ℕ) × (option_and_then (λ names. slice_get names place) children ≡ Some child)
child_place None child has = absurd (no_member child has)
child_place (Some children) child (place, lt, is) = (place, slice_get-get_or children place child lt ∙ ap (λ name. Some name) is)

-- child places lead to what is on chains
from_chains : (table : Table) (n : ℕ) (names : List Name) (cluster : Name) → Contains (on_chains table n names) cluster → (root : Name) × (path : List ℕ) × Contains names root × (length path < n) × (led_to table path root ≡ Some cluster)
from_chains table zero names cluster has = absurd (no_member cluster has)
from_chains table (suc more) names cluster has =
    let below : List Name = sorted name_cmp (flat_map (children_among table) names) in
    elim (Contains-append_cases names (on_chains table more below) cluster has) [
      | inl own ↦ (cluster, [], own, omega arith, refl)
      | inr later ↦
          let (child, path, has_child, short, led) = from_chains table more below cluster later in
          let (parent, has_parent, own) = from_joined (children_among table) names child (from_sorted name_cmp exact_bytes (flat_map (children_among table) names) child has_child) in
          let (place, at) = child_place (table parent) child own in
          (parent, place ∷ path, has_parent, omega (arith, short), ap (option_and_then (led_to table path)) at ∙ led)
    ]

-- ---- reached keys

module _ (r : Resources) (references : List Name) where
  abbrev reached : List Name
  reached = reached_clusters r references

  abbrev chained : List Name
  chained = on_chains (aggregates r) longest_chain (roots r references)

  abbrev route_keys : List Key
  route_keys = map (r.key Kind.Route) (option_to_list (named_routes (r.fate r.target.key)))

  abbrev cluster_keys : List Key
  cluster_keys = map (r.key Kind.Cluster) reached

  abbrev endpoint_keys : List Key
  endpoint_keys = map (r.key Kind.Endpoint) (endpoint_names r reached)

  is_on_chain : (cluster : Name) → Contains reached cluster → IsOnChain r references cluster
  is_on_chain cluster has = from_chains (aggregates r) longest_chain (roots r references) cluster (from_sorted name_cmp exact_bytes chained cluster has)

  is_reached : (cluster : Name) → IsOnChain r references cluster → Contains reached cluster
  is_reached cluster (root, path, has, short, led) =
      in_sorted name_cmp exact_bytes chained cluster (Contains-from_any (λ x y. (bytes_eq-Decides x y).0) cluster chained
      (led_on (aggregates r) longest_chain (roots r references) path root cluster (list_any-from_Contains nat_list_eq_equiv root (roots r references) has) short led))

  -- ---- each is led to

  route_led : (key : Key) → Contains route_keys key → IsRouteKey r key
  route_led key has =
      let (name, own, is) = from_mapped (r.key Kind.Route) (option_to_list (named_routes (r.fate r.target.key))) key has in
      (name, from_option (named_routes (r.fate r.target.key)) name own, sym is)

  cluster_led : (key : Key) → Contains cluster_keys key → IsClusterKey r references key
  cluster_led key has =
      let (cluster, own, is) = from_mapped (r.key Kind.Cluster) reached key has in
      (cluster, is_on_chain cluster own, sym is)

  endpoint_led : (key : Key) → Contains endpoint_keys key → IsEndpointKey r references key
  endpoint_led key has =
      let (name, own, is) = from_mapped (r.key Kind.Endpoint) (endpoint_names r reached) key has in
      let (cluster, has_cluster, named) = from_chosen (λ n. endpoint_name (cluster_fate r n)) reached name own in
      (cluster, name, is_on_chain cluster has_cluster, named, sym is)

  led : (key : Key) → Contains (keys_with r reached) key → IsReached r references key
  led key has =
      elim (at_first r.target.key key (route_keys ++ (cluster_keys ++ endpoint_keys)) has) [
        | inl is ↦ inl (sym is)
        | inr later ↦ elim (Contains-append_cases route_keys (cluster_keys ++ endpoint_keys) key later) [
          | inl route ↦ inr (inl (route_led key route))
          | inr later ↦ elim (Contains-append_cases cluster_keys endpoint_keys key later) [
            | inl cluster ↦ inr (inr (inl (cluster_led key cluster)))
            | inr endpoint ↦ inr (inr (inr (endpoint_led key endpoint)))
          ]
        ]
      ]

  -- ---- each that is led to

  has_chained : (key : Key) → Contains (cluster_keys ++ endpoint_keys) key → has_key (reach r references) key ≡ true
  has_chained key has =
      list_any-from_Contains is_key_equiv key (reach r references) (in_sorted key_cmp exact_keys (keys_with r reached) key
      (there r.target.key (route_keys ++ (cluster_keys ++ endpoint_keys)) key (Contains-append_right route_keys (cluster_keys ++ endpoint_keys) key has)))

  has_cluster : (cluster : Name) → IsOnChain r references cluster → has_key (reach r references) (r.key Kind.Cluster cluster) ≡ true
  has_cluster cluster on =
      has_chained (r.key Kind.Cluster cluster) (Contains-append_left cluster_keys endpoint_keys (r.key Kind.Cluster cluster)
      (mapped (r.key Kind.Cluster) reached cluster (is_reached cluster on)))

  has_endpoint : (cluster name : Name) → IsOnChain r references cluster → endpoint_name (cluster_fate r cluster) ≡ Some name → has_key (reach r references) (r.key Kind.Endpoint name) ≡ true
  has_endpoint cluster name on is =
      has_chained (r.key Kind.Endpoint name) (Contains-append_right cluster_keys endpoint_keys (r.key Kind.Endpoint name)
      (mapped (r.key Kind.Endpoint) (endpoint_names r reached) name (in_chosen (λ n. endpoint_name (cluster_fate r n)) reached cluster name (is_reached cluster on) is)))

  has_as : (key other : Key) → key ≡ other → has_key (reach r references) other ≡ true → has_key (reach r references) key ≡ true
  has_as key other is has = subst (λ k. has_key (reach r references) k ≡ true) (sym is) has

  has_led : (key : Key) → IsReached r references key → has_key (reach r references) key ≡ true
  has_led key (inl is) = has_as key r.target.key is (has_target r references)
  has_led key (inr (inl (name, named, is))) = has_as key (r.key Kind.Route name) is (has_route r references name named)
  has_led key (inr (inr (inl (cluster, on, is)))) = has_as key (r.key Kind.Cluster cluster) is (has_cluster cluster on)
  has_led key (inr (inr (inr (cluster, name, on, named, is)))) = has_as key (r.key Kind.Endpoint name) is (has_endpoint cluster name on named)

  pub reached_by_chains : (key : Key) → (has_key (reach r references) key ≡ true) ↔ IsReached r references key
  reached_by_chains key =
      (λ has. led key (from_sorted key_cmp exact_keys (keys_with r reached) key (Contains-from_any same_key key (reach r references) has)), has_led key)
