-- What is kept, and what an update comes to by it.
use Rattle.std.proofs.Common.{◌≡◌, ℕ, ◌+◌, ◌≤◌, arith, Bool, true, false, Option, Some, None, Result, Ok, Err, List, [], ◌∷◌, ◌++◌, map, refl, sym, ap, ◌∙◌, subst, is_some}
use Rattle.std.specs.Prelude.{Contains, IfSome, IsSome, IsSomeAnd, if◌then◌else◌, option_map, unwrap_or}
use Rattle.xc_keys.proofs.MemberLemmas.{from_mapped}
use Rattle.xc_base.specs.declared.names.Home.{Home}
use Rattle.xc_base.specs.declared.names.Kind.{Kind}
use Rattle.xc_base.specs.declared.names.Key.{Key}
use Rattle.xc_base.specs.declared.reason.Reason.{Reason}
use Rattle.xds_bootstrap.specs.declared.bootstrap.AuthorityEntry.{AuthorityEntry}
use Rattle.xds_name.specs.declared.target.Target.{Target}
use Rattle.xds_config.specs.Configs.{IsLawfulConfig}
use Rattle.xds_config.specs.declared.config.Front.{Front}
use Rattle.xds_config.specs.declared.config.Config.{Config}
use Rattle.xds_config.specs.declared.config.ClusterEntry.{ClusterEntry}
use Rattle.aggregate_expand.specs.declared.expand_fault.ExpandFault.{ExpandFault}
use Rattle.aggregate_expand.specs.Leaves.{leaves_of}
use Rattle.xds_cache.specs.KeptFates.{Watched, fate_at, fate_of, known_of, watched}
use Rattle.xds_cache.specs.declared.fate.Known.{Known}
use Rattle.config_assembly.specs.Orders.{Name, name_cmp, sorted}
use Rattle.config_assembly.specs.ReachedResources.{Resources, cluster_fate, resources}
use Rattle.config_assembly.specs.Front.{front, names_of}
use Rattle.config_assembly.specs.Reach.{aggregates, children_of, endpoint_name, is_wanted, missing, reach, reached_clusters, roots}
use Rattle.config_assembly.specs.WholeConfigs.{cluster_entry, cluster_state, config_where, config_with, leaf_of, leaves_state, whole_config}
use Rattle.config_assembly.specs.Watching.{IsWatching, has_key}
use Rattle.config_assembly.proofs.ReachLemmas.{whole_where}
use Rattle.dep_manager.specs.Laws.{AgreeAt, with_fates}
use Rattle.dep_manager.specs.CallsAlone.{AreCallsAlone}
use Rattle.dep_manager.specs.KeptAssemblies.{IsAssembledOf, IsKeptOf, IsRightBy, Managed, config_if, config_so_far, kept_with, least_of, source_of, sources_of}
use Rattle.dep_manager.specs.UpdateOutcomes.{IsOutcomeBy, outcome_of}
use Rattle.dep_manager.specs.declared.kept_assembly.Kept.{Kept}
use Rattle.dep_manager.proofs.DecideLemmas.{at_cluster, at_route, at_target, entry_same}
use Rattle.dep_manager.proofs.ReachSteps.{front_same, has_member, is_reached, leaf_on_chain, map_same, reach_same, roots_same, waits_same}
use Rattle.dep_manager.proofs.SortedKeys.{kept_same, least_kept}

-- ---- what an update comes to

module _ (r : Resources) (reached : List Key) (kept : Kept) (is : IsAssembledOf r reached kept) where
  least_is : least_of kept.awaited.keys ≡ missing r.fate reached
  least_is = ap least_of is.awaited_are ∙ least_kept (λ key. is_wanted (r.fate key)) reached

  least_reached : least_of kept.awaited.keys ≡ missing r.fate (reach r kept.references)
  least_reached = least_is ∙ ap (missing r.fate) is.reached_are

  so_far_is : (found : Option (Result Front Reason)) → front r ≡ found → IsSome (option_map (config_with r kept.references) found) → Some (config_so_far r kept.references) ≡ option_map (config_with r kept.references) found
  so_far_is None at some = absurd (cc some)
  so_far_is (Some found) at some =
      let with : Option (Result Front Reason) → Option Config = λ o. Some record { front = unwrap_or o (Err Reason.Absent); clusters = map (cluster_entry r) (sorted name_cmp (names_of o ++ kept.references)) } in
      ap with at

  config_by : (least : Option Key) → least ≡ missing r.fate (reach r kept.references) → config_if least kept.config ≡ config_where least r kept.references
  config_by (Some key) at = refl
  config_by None at =
      ap (λ config. Some config) is.config_is
      ∙ so_far_is (front r) refl ((whole_where r kept.references None (whole_config r kept.references) is.front_waits at refl).1 refl)

  lawful_if : (least : Option Key) → IsLawfulConfig kept.config → IfSome (config_if least kept.config) IsLawfulConfig
  lawful_if None lawful = lawful
  lawful_if (Some key) lawful = tt

  pub outcome_by : (stays : Bool) (marks : List Bool) → IsLawfulConfig kept.config → IsOutcomeBy r kept.references (outcome_of reached stays kept marks)
  outcome_by stays marks lawful = record {
    reached_are = is.reached_are;
    missing_is = least_is;
    config_is = config_by (least_of kept.awaited.keys) least_reached;
    whole = whole_where r kept.references (least_of kept.awaited.keys) (config_if (least_of kept.awaited.keys) kept.config) is.front_waits least_reached (config_by (least_of kept.awaited.keys) least_reached);
    lawful = lawful_if (least_of kept.awaited.keys) lawful;
  }

-- ---- the same is known of the reached keys

pub sources_named : (r s : Resources) (names : List Name) → map (λ leaf. source_of r leaf.name) (map (leaf_of s) names) ≡ map (source_of r) names
sources_named r s [] = refl
sources_named r s (name ∷ names) = ap (λ keys. source_of r name ∷ keys) (sources_named r s names)

module _ (r : Resources) (references : List Name) (fate : Key → Known) (agree : AgreeAt (reach r references) r.fate fate) where
  abbrev other : Resources
  other = with_fates r fate

  known_same : (name : Name) → Contains (reached_clusters r references) name → source_of other name ≡ source_of r name
  known_same name has = ap (λ known. option_map (r.key Kind.Endpoint) (endpoint_name known)) (at_cluster r references fate agree name has)

  leaves_known : (aggregate : Bool) (cluster : Name) (found : Result (List Name) ExpandFault) → Contains (roots r references) cluster → leaves_of (aggregates r) cluster ≡ found → sources_of other (leaves_state r aggregate found) ≡ sources_of r (leaves_state r aggregate found)
  leaves_known aggregate cluster (Err fault) root is = refl
  leaves_known aggregate cluster (Ok names) root is =
      sources_named other r names
      ∙ map_same (source_of other) (source_of r) names (λ name has. known_same name
      (is_reached r references fate (at_target r references fate agree) (at_route r references fate agree) (at_cluster r references fate agree) name (leaf_on_chain (aggregates r) (roots r references) cluster names name root is has)))
      ∙ sym (sources_named r r names)

  state_known : (cluster : Name) (known : Known) → Contains (roots r references) cluster → sources_of other (cluster_state r cluster known) ≡ sources_of r (cluster_state r cluster known)
  state_known cluster Known.Wanted root = refl
  state_known cluster (Known.Value value) root = leaves_known (is_some (children_of (Known.Value value))) cluster (leaves_of (aggregates r) cluster) root refl
  state_known cluster (Known.Invalid reason) root = refl
  state_known cluster Known.Absent root = refl

  entry_known : (entry : ClusterEntry) → Contains (map (cluster_entry r) (roots r references)) entry → sources_of other entry.state ≡ sources_of r entry.state
  entry_known entry has =
      let (name, own, is) = from_mapped (cluster_entry r) (roots r references) entry has in
      subst (λ e. sources_of other e.state ≡ sources_of r e.state) is (state_known name (cluster_fate r name) own)

  so_far_same : config_so_far other references ≡ config_so_far r references
  so_far_same =
      let t = at_target r references fate agree in
      let p = at_route r references fate agree in
      let c = at_cluster r references fate agree in
      let of : Option (Result Front Reason) → List ClusterEntry → Config = λ found clusters. record { front = unwrap_or found (Err Reason.Absent); clusters = clusters } in
      ap (λ found. of found (map (cluster_entry other) (roots other references))) (front_same r references fate t p c)
      ∙ ap (λ names. of (front r) (map (cluster_entry other) names)) (roots_same r references fate t p c)
      ∙ ap (of (front r)) (map_same (cluster_entry other) (cluster_entry r) (roots r references) (λ name has. entry_same r references fate agree name has))

  pub assembled_again : (reached : List Key) (kept : Kept) → kept.references ≡ references → IsAssembledOf r reached kept → IsAssembledOf other reached kept
  assembled_again reached kept same is =
      let t = at_target r references fate agree in
      let p = at_route r references fate agree in
      let c = at_cluster r references fate agree in
      let config : kept.config ≡ config_so_far r references = is.config_is ∙ ap (config_so_far r) same in
      let keys : reached ≡ reach r references = is.reached_are ∙ ap (reach r) same in
      record {
        reached_are = keys ∙ sym (reach_same r references fate t p c) ∙ ap (reach other) (sym same);
        awaited_are = is.awaited_are ∙ kept_same (λ key. is_wanted (r.fate key)) (λ key. is_wanted (fate key)) reached (λ key has. ap is_wanted (sym (agree key (subst (λ ks. has_key ks key ≡ true) keys (has_member reached key has)))));
        config_is = config ∙ sym so_far_same ∙ ap (config_so_far other) (sym same);
        sources_are = is.sources_are ∙ sym (map_same (λ entry. sources_of other entry.state) (λ entry. sources_of r entry.state) kept.config.clusters (λ entry has. entry_known entry (subst (λ cs. Contains cs entry) (ap (λ x. x.clusters) config) has)));
        front_waits = waits_same r references fate t p c is.front_waits;
        alone_are = subst (λ found. AreCallsAlone (names_of found) kept.references kept.calls_alone) (sym (front_same r references fate t p c)) is.alone_are;
      }

-- ---- what is watched

fate_again : (home : Home) (known : Option Known) → fate_at home (watched known) ≡ fate_at home known
fate_again (Home.At authority) None = refl
fate_again (Home.At authority) (Some known) = refl
fate_again (Home.Nowhere fault) known = refl

pub watching_agrees : (old new : Watched) (reached : List Key) → IsWatching old new reached → AgreeAt reached (fate_of old) (fate_of new)
watching_agrees old new reached watching key has =
    ap (fate_at key.home) (watching key ∙ ap (λ b. if b then watched (known_of old key) else None) has) ∙ fate_again key.home (known_of old key)

some_if : (b : Bool) (known : Option Known) → is_some (if b then watched known else None) ≡ b
some_if true known = refl
some_if false known = refl

pub watching_some : (old new : Watched) (reached : List Key) → IsWatching old new reached → (key : Key) → is_some (known_of new key) ≡ has_key reached key
watching_some old new reached watching key = ap (λ o. is_some o) (watching key) ∙ some_if (has_key reached key) (known_of old key)

still_watched : (b : Bool) (known : Option Known) → is_some known ≡ b → known ≡ (if b then watched known else None)
still_watched true None is = absurd (cc is)
still_watched true (Some known) is = refl
still_watched false None is = refl
still_watched false (Some known) is = absurd (cc is)

-- where the reached keys are watched and no others, nothing has to be done
pub watching_still : (known : Watched) (reached : List Key) → ((key : Key) → is_some (known_of known key) ≡ has_key reached key) → IsWatching known known reached
watching_still known reached watches key = still_watched (has_key reached key) (known_of known key) (watches key)

-- ---- made from nothing

pub kept_by : (entries : List AuthorityEntry) (old new : Watched) (target : Target) (references : List Name) (reached : List Key) (kept : Kept) → IsAssembledOf (resources target entries old) reached kept → kept.references ≡ references → IsLawfulConfig kept.config → IsWatching old new reached → IsKeptOf entries new target reached kept
kept_by entries old new target references reached kept is same lawful watching = record {
  assembled = assembled_again (resources target entries old) references (fate_of new)
      (subst (λ keys. AgreeAt keys (fate_of old) (fate_of new)) (is.reached_are ∙ ap (reach (resources target entries old)) same) (watching_agrees old new reached watching)) reached kept same is;
  watched = watching_some old new reached watching;
  lawful = lawful;
}

-- ---- what is kept, with other marks

kept_again : (entries : List AuthorityEntry) (known : Watched) (target : Target) (reached : List Key) (kept : Kept) (marks : List Bool) → IsKeptOf entries known target reached kept → IsKeptOf entries known target reached (kept_with kept marks)
kept_again entries known target reached kept marks is = record {
  assembled = record {
    reached_are = is.assembled.reached_are;
    awaited_are = is.assembled.awaited_are;
    config_is = is.assembled.config_is;
    sources_are = is.assembled.sources_are;
    front_waits = is.assembled.front_waits;
    alone_are = is.assembled.alone_are;
  };
  watched = is.watched;
  lawful = is.lawful;
}

right_again : (entries : List AuthorityEntry) (known : Watched) (target : Target) (reached : List Key) (made : Kept) (last : Option Kept) → IsSomeAnd last (λ kept. kept ≡ kept_with made kept.others) → IsKeptOf entries known target reached made →
    IfSome last (IsKeptOf entries known target reached)
right_again entries known target reached made None is right = tt
right_again entries known target reached made (Some kept) is right = subst (IsKeptOf entries known target reached) (sym is) (kept_again entries known target reached made kept.others right)

pub right_by : (entries : List AuthorityEntry) (known : Watched) (target : Target) (reached : List Key) (made : Kept) (d : Managed) → d.target ≡ target → d.reached ≡ reached → IsSomeAnd d.last (λ kept. kept ≡ kept_with made kept.others) →
    IsKeptOf entries known target reached made → IsRightBy entries known d
right_by entries known target reached made d same keys is right =
    subst (λ t. IfSome d.last (IsKeptOf entries known t d.reached)) (sym same) (subst (λ ks. IfSome d.last (IsKeptOf entries known target ks)) (sym keys) (right_again entries known target reached made d.last is right))

pub none_counted : (old new n : ℕ) → new ≤ old + n → old ≤ new → n ≡ 0 → new ≡ old
none_counted old new n most least none = omega (arith, most, least, none)
