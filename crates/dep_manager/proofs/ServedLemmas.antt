-- What is kept serves calls that refer to these clusters.
use Rattle.std.proofs.Common.{◌≡◌, arith, Bool, true, ◌||◌, ◌&&◌, List, [], ◌∷◌, ◌++◌, length, map, Option, Some, None, Result, Err, inl, inr, refl, sym, ap, ap₂, ◌∙◌, subst, IsTrue}
use Rattle.std.specs.Prelude.{◌↔◌, Contains, IfSome, IsSomeAnd, unwrap_or}
use Rattle.std.specs.List.{list_all}
use Rattle.std.specs.Option.{option_or}
use Rattle.std.specs.Ordering.{is_eq}
use Rattle.xc_base.specs.declared.names.Kind.{Kind}
use Rattle.xc_base.specs.declared.names.Key.{Key}
use Rattle.xc_base.specs.declared.reason.Reason.{Reason}
use Rattle.xc_keys.proofs.MemberLemmas.{at_first, here, no_member, there}
use Rattle.xds_bootstrap.specs.declared.bootstrap.AuthorityEntry.{AuthorityEntry}
use Rattle.xds_name.specs.declared.target.Target.{Target}
use Rattle.xds_cache.specs.KeptFates.{Watched}
use Rattle.xds_config.specs.declared.config.Config.{Config}
use Rattle.xds_config.specs.declared.config.Front.{Front}
use Rattle.config_assembly.specs.Orders.{Name, name_cmp, sorted}
use Rattle.config_assembly.specs.ReachedResources.{Resources, resources}
use Rattle.config_assembly.specs.Front.{front, names_of, names_of_front}
use Rattle.dep_manager.specs.CallsAlone.{KeepsRoots, is_among}
use Rattle.dep_manager.specs.EndpointNews.{are_endpoints}
use Rattle.dep_manager.specs.KeptAssemblies.{AreChanges, IsAssembledOf, IsKeptOf, IsRightBy, Managed, config_if, kept_for, kept_with, least_of}
use Rattle.dep_manager.specs.ServedCalls.{AreShown, IsHandedOut, IsServing, Serves}
use Rattle.dep_manager.specs.UpdateOutcomes.{IsOutcomeBy, outcome_of}
use Rattle.dep_manager.specs.declared.kept_assembly.Kept.{Kept}
use Rattle.dep_manager.specs.declared.deps.Outcome.{Outcome}
use Rattle.dep_manager.proofs.KeptLemmas.{outcome_by}
use Rattle.dep_manager.proofs.RenewLemmas.{front_stays}
use Rattle.dep_manager.proofs.RootLemmas.{assembled_for, itself, keeps_by, kept_of, or_later}

-- ---- by the resources

host_names : (found : Option (Result Front Reason)) → names_of found ≡ names_of_front (unwrap_or found (Err Reason.Absent))
host_names None = refl
host_names (Some found) = refl

module _ (r : Resources) (reached : List Key) (kept : Kept) (is : IsAssembledOf r reached kept) (names : List Name) where
  host_is : names_of (front r) ≡ names_of_front kept.config.front
  host_is = host_names (front r) ∙ sym (ap (λ config. names_of_front config.front) is.config_is)

  pub serves_by : KeepsRoots r kept.references names → Serves names kept
  serves_by keeps = subst (λ host. sorted name_cmp (host ++ names) ≡ sorted name_cmp (host ++ kept.references)) host_is keeps

  pub keeps_by_served : Serves names kept → KeepsRoots r kept.references names
  keeps_by_served serves = subst (λ host. sorted name_cmp (host ++ names) ≡ sorted name_cmp (host ++ kept.references)) (sym host_is) serves

  pub serves_where : (serves : Bool) → IsTrue serves ↔ KeepsRoots r kept.references names → IsTrue serves ↔ Serves names kept
  serves_where serves by = (λ yes. serves_by (by.0 yes), λ does. by.1 (keeps_by_served does))

-- ---- the clusters that the configuration has

has_among : (names : List Name) (name : Name) → Contains names name → is_among names name ≡ true
has_among [] name has = absurd (no_member name has)
has_among (x ∷ names) name has = elim (at_first x name names has) [
  | inl same ↦ subst (λ y. (is_eq (name_cmp name y) || is_among names name) ≡ true) (sym same) (ap (λ b. b || is_among names name) (itself name))
  | inr later ↦ or_later (is_eq (name_cmp name x)) (is_among names name) (has_among names name later)
]

all_among : (others names : List Name) → ((name : Name) → Contains names name → Contains others name) → list_all (is_among others) names ≡ true
all_among others [] each = refl
all_among others (x ∷ names) each = ap₂ (λ b more. b && more) (has_among others x (each x (here x names))) (all_among others names (λ name has. each name (there x names name has)))

-- where it was handed out and no cluster is configured for calls alone, what is kept serves all calls that refer to its clusters
host_serves : (entries : List AuthorityEntry) (known : Watched) (d : Managed) (kept : Kept) (names : List Name) → IsRightBy entries known d → d.last ≡ Some kept → kept.calls_alone ≡ [] → d.shown ≡ Some kept.config → AreShown d.shown names → IsServing d names
host_serves entries known d kept names right last none handed shown =
    let is : IsAssembledOf (resources d.target entries known) d.reached kept = (kept_of entries known d kept right last).assembled in
    let all : list_all (is_among (map (λ c. c.name) kept.config.clusters)) names ≡ true =
    all_among (map (λ c. c.name) kept.config.clusters) names (λ name has. subst (λ o. IsSomeAnd o (λ config. Contains (map (λ c. c.name) config.clusters) name)) handed (shown name has)) in
    let keeps : KeepsRoots (resources d.target entries known) kept.references names =
    (keeps_by (resources d.target entries known) d.reached kept is names true (sym (ap₂ (λ a b. a && b) all (ap (list_all (is_among names)) none)))).0 refl in
    subst (λ o. IsSomeAnd o (Serves names)) (sym last) (serves_by (resources d.target entries known) d.reached kept is names keeps)

pub no_members : {X : Type 0} (xs : List X) → length xs ≡ 0 → xs ≡ []
no_members [] none = refl
no_members (x ∷ xs) none = absurd (omega (arith, none))

pub serves_its_host : (entries : List AuthorityEntry) (known : Watched) (d : Managed) (kept : Kept) (names : List Name) → IsRightBy entries known d → d.last ≡ Some kept → IfSome d.last (IsHandedOut d.shown) → kept.calls_alone ≡ [] → kept.awaited.keys ≡ [] → AreShown d.shown names →
    IsServing d names
serves_its_host entries known d kept names right last handed none awaited shown =
    host_serves entries known d kept names right last none (subst (λ o. IfSome o (IsHandedOut d.shown)) last handed awaited) shown

pub is_serving_where : (entries : List AuthorityEntry) (known : Watched) (d : Managed) (kept : Kept) (names : List Name) (serves : Bool) → IsRightBy entries known d → d.last ≡ Some kept →
    ((r : Resources) (reached : List Key) → IsAssembledOf r reached kept → IsTrue serves ↔ KeepsRoots r kept.references names) → IsTrue serves ↔ IsServing d names
is_serving_where entries known d kept names serves right last by =
    let is : IsAssembledOf (resources d.target entries known) d.reached kept = (kept_of entries known d kept right last).assembled in
    subst (λ o. IsTrue serves ↔ IsSomeAnd o (Serves names)) (sym last) (serves_where (resources d.target entries known) d.reached kept is names serves (by (resources d.target entries known) d.reached is))

pub none_serves : (d : Managed) (names : List Name) (serves : Bool) → d.last ≡ None → IsTrue serves ↔ ⊥ → IsTrue serves ↔ IsServing d names
none_serves d names serves last never = subst (λ o. IsTrue serves ↔ IsSomeAnd o (Serves names)) (sym last) never

-- ---- where endpoints changed

module _ (entries : List AuthorityEntry) (known now : Watched) (target : Target) (reached changed : List Key) (last kept : Kept) (names : List Name)
    (listener : target.key.kind ≡ Kind.Listener) (endpoints : are_endpoints changed ≡ true) (was : IsKeptOf entries known target reached last) (changes : AreChanges known now changed)
    (is : IsKeptOf entries now target reached kept) (same : kept.references ≡ last.references) (serves : Serves names last) where
  keeps_on : KeepsRoots (resources target entries now) kept.references names
  keeps_on =
      subst (λ before. KeepsRoots (resources target entries now) before names) (sym same)
      (subst (λ found. sorted name_cmp (names_of found ++ names) ≡ sorted name_cmp (names_of found ++ last.references)) (sym (front_stays entries known now target changed last.references listener endpoints changes))
      (keeps_by_served (resources target entries known) reached last was.assembled names serves))

  pub serves_on : Serves names kept
  serves_on = serves_by (resources target entries now) reached kept is.assembled names keeps_on

  pub outcome_on : (stays : Bool) (marks : List Bool) → IsOutcomeBy (resources target entries now) names (outcome_of reached stays kept marks)
  outcome_on stays marks =
      outcome_by (resources target entries now) reached (kept_for kept names) (assembled_for (resources target entries now) reached kept is.assembled names keeps_on) stays marks is.lawful

pub serving_with : (last : Option Kept) (made : Kept) (names : List Name) → IsSomeAnd last (λ kept. kept ≡ kept_with made kept.others) → Serves names made → IsSomeAnd last (Serves names)
serving_with None made names is serves = absurd is
serving_with (Some kept) made names is serves = subst (Serves names) (sym is) serves

pub serves_own : (names : List Name) (kept : Kept) → names ≡ kept.references → Serves names kept
serves_own names kept same = ap (λ ns. sorted name_cmp (names_of_front kept.config.front ++ ns)) same

-- ---- handed out

handed_if : (least : Option Key) (config : Config) (old shown : Option Config) → shown ≡ option_or (config_if least config) old → least ≡ None → shown ≡ Some config
handed_if None config old shown is none = is
handed_if (Some key) config old shown is none = absurd (cc none)

pub is_handed_out : (reached : List Key) (stays : Bool) (made kept : Kept) (o : Outcome) (old shown : Option Config) → o ≡ outcome_of reached stays made o.others → kept ≡ kept_with made kept.others → shown ≡ option_or o.config old → IsHandedOut shown kept
is_handed_out reached stays made kept o old shown is same by none =
    handed_if (least_of made.awaited.keys) made.config old shown (by ∙ ap (λ out. option_or out.config old) is) (ap (λ k. least_of k.awaited.keys) (sym same) ∙ ap least_of none)
    ∙ sym (ap (λ k. Some k.config) same)
