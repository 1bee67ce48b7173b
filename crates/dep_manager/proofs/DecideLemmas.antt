-- What is reached, awaited and configured rests on what is known of the reached keys alone.
use Rattle.std.proofs.Common.{◌≡◌, Bool, Option, Some, None, Result, Ok, Err, List, [], ◌++◌, map, refl, sym, ap, ◌∙◌, subst, is_some, option_map, option_to_list}
use Rattle.std.specs.Prelude.{Contains}
use Rattle.std.proofs.lemmas.List.Elements.{Contains-append_left, Contains-append_right}
use Rattle.xc_base.specs.declared.names.Kind.{Kind}
use Rattle.xc_base.specs.declared.names.Key.{Key}
use Rattle.xc_base.specs.declared.reason.Reason.{Reason}
use Rattle.xc_keys.specs.Keys.{key_cmp}
use Rattle.xc_keys.proofs.KeyLemmas.{exact_keys}
use Rattle.xc_keys.proofs.MemberLemmas.{here, there, mapped}
use Rattle.xds_config.specs.declared.config.Front.{Front}
use Rattle.xds_config.specs.declared.config.Config.{Config}
use Rattle.xds_config.specs.declared.config.Leaf.{Leaf}
use Rattle.xds_config.specs.declared.config.Leaves.{Leaves}
use Rattle.xds_config.specs.declared.endpoint_values.EndpointValue.{EndpointValue}
use Rattle.xds_config.specs.declared.config.ClusterEntry.{ClusterEntry}
use Rattle.aggregate_expand.specs.declared.expand_fault.ExpandFault.{ExpandFault}
use Rattle.aggregate_expand.specs.Leaves.{leaves_of}
use Rattle.xds_cache.specs.declared.fate.Known.{Known}
use Rattle.config_assembly.specs.Orders.{Name, name_cmp, sorted}
use Rattle.config_assembly.specs.ReachedResources.{Resources, cluster_fate}
use Rattle.config_assembly.specs.Front.{front, named_routes, names_of}
use Rattle.config_assembly.specs.Reach.{aggregates, children_of, endpoint_name, endpoint_names, is_wanted, keys_with, missing, reach, reached_clusters, roots}
use Rattle.config_assembly.specs.WholeConfigs.{cluster_entry, cluster_state, config_with, endpoints_of, leaf_of, leaf_state, leaves_state, whole_config}
use Rattle.dep_manager.specs.Laws.{AgreeAt, IsSame, with_fates}
use Rattle.config_assembly.proofs.Members.{in_sorted}
use Rattle.dep_manager.proofs.ReachSteps.{front_same, found_same, has_member, in_chosen, is_reached, leaf_on_chain, leaves_same, map_same, reach_same, root_chained}

-- ---- the same is known of the reached keys

module _ (r : Resources) (references : List Name) (fate : Key → Known) (agree : AgreeAt (reach r references) r.fate fate) where
  abbrev other : Resources
  other = with_fates r fate

  abbrev reached : List Name
  reached = reached_clusters r references

  at_key : (key : Key) → Contains (keys_with r reached) key → fate key ≡ r.fate key
  at_key key has = agree key (has_member (reach r references) key (in_sorted key_cmp exact_keys (keys_with r reached) key has))

  abbrev route_keys : List Key
  route_keys = map (r.key Kind.Route) (option_to_list (named_routes (r.fate r.target.key)))

  abbrev cluster_keys : List Key
  cluster_keys = map (r.key Kind.Cluster) reached

  abbrev endpoint_keys : List Key
  endpoint_keys = map (r.key Kind.Endpoint) (endpoint_names r reached)

  pub at_target : fate r.target.key ≡ r.fate r.target.key
  at_target = at_key r.target.key (here r.target.key (route_keys ++ (cluster_keys ++ endpoint_keys)))

  pub at_route : (name : Name) → named_routes (r.fate r.target.key) ≡ Some name → fate (r.key Kind.Route name) ≡ r.fate (r.key Kind.Route name)
  at_route name is =
      at_key (r.key Kind.Route name) (there r.target.key (route_keys ++ (cluster_keys ++ endpoint_keys)) (r.key Kind.Route name)
      (Contains-append_left route_keys (cluster_keys ++ endpoint_keys) (r.key Kind.Route name)
      (mapped (r.key Kind.Route) (option_to_list (named_routes (r.fate r.target.key))) name (subst (λ o. Contains (option_to_list o) name) (sym is) (here name [])))))

  pub at_cluster : (name : Name) → Contains reached name → cluster_fate other name ≡ cluster_fate r name
  at_cluster name has =
      at_key (r.key Kind.Cluster name) (there r.target.key (route_keys ++ (cluster_keys ++ endpoint_keys)) (r.key Kind.Cluster name)
      (Contains-append_right route_keys (cluster_keys ++ endpoint_keys) (r.key Kind.Cluster name)
      (Contains-append_left cluster_keys endpoint_keys (r.key Kind.Cluster name) (mapped (r.key Kind.Cluster) reached name has))))

  at_endpoint : (name endpoint : Name) → Contains reached name → endpoint_name (cluster_fate r name) ≡ Some endpoint → fate (r.key Kind.Endpoint endpoint) ≡ r.fate (r.key Kind.Endpoint endpoint)
  at_endpoint name endpoint has is =
      at_key (r.key Kind.Endpoint endpoint) (there r.target.key (route_keys ++ (cluster_keys ++ endpoint_keys)) (r.key Kind.Endpoint endpoint)
      (Contains-append_right route_keys (cluster_keys ++ endpoint_keys) (r.key Kind.Endpoint endpoint)
      (Contains-append_right cluster_keys endpoint_keys (r.key Kind.Endpoint endpoint)
      (mapped (r.key Kind.Endpoint) (endpoint_names r reached) endpoint (in_chosen (λ n. endpoint_name (cluster_fate r n)) reached name endpoint has is)))))

  missing_same : missing fate (reach other references) ≡ missing r.fate (reach r references)
  missing_same =
      ap (missing fate) (reach_same r references fate at_target at_route at_cluster)
      ∙ found_same (λ key. is_wanted (fate key)) (λ key. is_wanted (r.fate key)) (reach r references) (λ key has. ap is_wanted (agree key (has_member (reach r references) key has)))

  -- ---- the configuration

  leaf_state_same : (own : Known) (o : Option Name) (name : Name) → Contains reached name → endpoint_name (cluster_fate r name) ≡ o → leaf_state other own o ≡ leaf_state r own o
  leaf_state_same own None name has is = refl
  leaf_state_same own (Some endpoint) name has is = ap endpoints_of (at_endpoint name endpoint has is)

  leaf_same : (name : Name) → Contains reached name → leaf_of other name ≡ leaf_of r name
  leaf_same name has =
      let with : Result EndpointValue Reason → Leaf = λ state. record { name = name; state = state } in
      ap (λ known. with (leaf_state other known (endpoint_name known))) (at_cluster name has)
      ∙ ap with (leaf_state_same (cluster_fate r name) (endpoint_name (cluster_fate r name)) name has refl)

  leaves_state_same : (aggregate : Bool) (cluster : Name) (found : Result (List Name) ExpandFault) → Contains (roots r references) cluster → leaves_of (aggregates r) cluster ≡ found → leaves_state other aggregate found ≡ leaves_state r aggregate found
  leaves_state_same aggregate cluster (Err fault) root is = refl
  leaves_state_same aggregate cluster (Ok names) root is =
      let with : List Leaf → Result Leaves Reason = λ leaves. Ok record { aggregate = aggregate; leaves = leaves } in
      ap with (map_same (leaf_of other) (leaf_of r) names (λ name has. leaf_same name (is_reached r references fate at_target at_route at_cluster name (leaf_on_chain (aggregates r) (roots r references) cluster names name root is has))))

  state_same : (cluster : Name) (known : Known) → Contains (roots r references) cluster → cluster_state other cluster known ≡ cluster_state r cluster known
  state_same cluster Known.Wanted root = refl
  state_same cluster (Known.Value value) root =
      ap (leaves_state other (is_some (children_of (Known.Value value)))) (leaves_same r references fate at_target at_route at_cluster cluster root)
      ∙ leaves_state_same (is_some (children_of (Known.Value value))) cluster (leaves_of (aggregates r) cluster) root refl
  state_same cluster (Known.Invalid reason) root = refl
  state_same cluster Known.Absent root = refl

  pub entry_same : (cluster : Name) → Contains (roots r references) cluster → cluster_entry other cluster ≡ cluster_entry r cluster
  entry_same cluster root =
      let with : Result Leaves Reason → ClusterEntry = λ state. record { name = cluster; state = state } in
      ap (λ known. with (cluster_state other cluster known)) (at_cluster cluster (is_reached r references fate at_target at_route at_cluster cluster (root_chained r references fate at_target at_route at_cluster cluster root)))
      ∙ ap with (state_same cluster (cluster_fate r cluster) root)

  entries_same : (found : Option (Result Front Reason)) → front r ≡ found → option_map (config_with other references) found ≡ option_map (config_with r references) found
  entries_same None is = refl
  entries_same (Some found) is =
      let with : List ClusterEntry → Option Config = λ clusters. Some record { front = found; clusters = clusters } in
      let names : sorted name_cmp (names_of (Some found) ++ references) ≡ roots r references = ap (λ o. sorted name_cmp (names_of o ++ references)) (sym is) in
      ap with (map_same (cluster_entry other) (cluster_entry r) (sorted name_cmp (names_of (Some found) ++ references)) (λ name has. entry_same name (subst (λ ns. Contains ns name) names has)))

  config_same : whole_config other references ≡ whole_config r references
  config_same = ap (option_map (config_with other references)) (front_same r references fate at_target at_route at_cluster) ∙ entries_same (front r) refl

  pub fates_of_reached_keys_decide : IsSame r other references
  fates_of_reached_keys_decide = record { reached = (reach_same r references fate at_target at_route at_cluster); missing = missing_same; config = config_same }
