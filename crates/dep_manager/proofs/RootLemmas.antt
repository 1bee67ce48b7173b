-- Roots that stay where calls refer to other clusters than before.
use Rattle.std.proofs.Common.{◌≡◌, ℕ, zero, suc, ◌+◌, ◌<◌, append-nil, get_or, take, if◌then◌else◌, Bool, true, false, ◌||◌, ◌&&◌, not, List, [], ◌∷◌, ◌++◌, length, map, refl, sym, ap, ap₂, ◌∙◌, subst}
use Rattle.std.specs.Prelude.{◌↔◌, ◌≢◌, All, IsNone, option_map, slice_get, IfSome, IsSome, IsSomeAnd, IsTrue, Option, None, Some, Err, filter, is_some, unwrap_or}
use Rattle.std.specs.List.{list_all}
use Rattle.std.specs.Ordering.{is_eq}
use Rattle.std.proofs.lemmas.Cmp.{nat_list_cmp_total}
use Rattle.std.proofs.lemmas.List.Folds.{list_any-append}
use Rattle.std.proofs.lemmas.List.{take_more}
use Rattle.std.proofs.lemmas.List.Elements.{All-head, All-tail, filter-append}
use Rattle.std.proofs.lemmas.Map.Lookups.{exact_bytes}
use Rattle.std.proofs.lemmas.Map.Text.{is_eq-slice_cmp}
use Rattle.std.proofs.lemmas.Map.Views.{any-filter_same}
use Rattle.std.proofs.lemmas.Slice.Eq.{bytes_eq-Decides}
use Rattle.xc_base.specs.declared.names.Key.{Key}
use Rattle.xc_keys.specs.Keys.{key_cmp}
use Rattle.xds_bootstrap.specs.declared.bootstrap.AuthorityEntry.{AuthorityEntry}
use Rattle.xds_name.specs.declared.target.Target.{Target}
use Rattle.xds_cache.specs.KeptFates.{Watched}
use Rattle.xds_config.specs.declared.config.ClusterEntry.{ClusterEntry}
use Rattle.xds_config.specs.declared.config.Config.{Config}
use Rattle.xc_base.specs.declared.reason.Reason.{Reason}
use Rattle.aggregate_expand.specs.Chains.{longest_chain}
use Rattle.config_assembly.specs.Orders.{Name, name_cmp, put_in, sorted}
use Rattle.config_assembly.specs.ReachedResources.{Resources, resources}
use Rattle.config_assembly.specs.Front.{front, names_of}
use Rattle.config_assembly.specs.Reach.{aggregates, keys_with, on_chains, roots}
use Rattle.config_assembly.specs.WholeConfigs.{cluster_entry}
use Rattle.config_assembly.proofs.OrderLemmas.{any_sorted}
use Rattle.config_assembly.proofs.SortedLists.{sorted_same}
use Rattle.dep_manager.specs.CallsAlone.{AreCallsAlone, KeepsRoots, is_among}
use Rattle.dep_manager.specs.EndpointNews.{are_endpoints}
use Rattle.dep_manager.specs.KeptAssemblies.{AreChanges, HaveChanged, IsAssembledOf, IsKeptOf, IsRightBy, Managed, kept_for}
use Rattle.dep_manager.specs.ShownEntries.{StandAsShown}
use Rattle.dep_manager.specs.declared.kept_assembly.Kept.{Kept}

-- ---- names among others

same_name : (a b : Name) → is_eq (name_cmp a b) ≡ true → a ≡ b
same_name a b is = (bytes_eq-Decides a b).0 (sym (is_eq-slice_cmp a b) ∙ is)

pub itself : (name : Name) → is_eq (name_cmp name name) ≡ true
itself name = is_eq-slice_cmp name name ∙ (bytes_eq-Decides name name).1 refl

pub or_later : (b more : Bool) → more ≡ true → (b || more) ≡ true
or_later true more is = refl
or_later false more is = is

all_at : (p : Name → Bool) (names : List Name) (name : Name) → list_all p names ≡ true → is_among names name ≡ true → p name ≡ true
all_at p [] name all has = absurd (cc has)
all_at p (x ∷ xs) name all has = at (is_eq (name_cmp name x)) (p x) refl refl all has (λ every there. all_at p xs name every there)
  where
    at : (same passes : Bool) → is_eq (name_cmp name x) ≡ same → p x ≡ passes → (passes && list_all p xs) ≡ true → (same || is_among xs name) ≡ true → (list_all p xs ≡ true → is_among xs name ≡ true → p name ≡ true) → p name ≡ true
    at same false is by every there more = absurd (cc every)
    at true true is by every there more = ap p (same_name name x is) ∙ by
    at false true is by every there more = more every there

all_by : (p : Name → Bool) (names : List Name) → ((name : Name) → is_among names name ≡ true → p name ≡ true) → list_all p names ≡ true
all_by p [] each = refl
all_by p (x ∷ xs) each =
    ap₂ (λ b more. b && more) (each x (ap (λ b. b || is_among xs x) (itself x)))
    (all_by p xs (λ name has. each name (or_later (is_eq (name_cmp name x)) (is_among xs name) has)))

pub outside_alone : (named set references alone : List Name) → set ≡ sorted name_cmp named → alone ≡ filter (λ name. not (is_among set name)) references → AreCallsAlone named references alone
outside_alone named set references alone has is name =
    ap (λ names. is_among names name) is
    ∙ any-filter_same (λ other. is_eq (name_cmp name other)) (λ other. not (is_among set other)) (not (is_among set name)) (λ other same. ap (λ x. not (is_among set x)) (sym (same_name name other same))) references
    ∙ flipped (not (is_among set name)) (is_among references name)
    ∙ ap (λ b. is_among references name && not b) (ap (λ names. is_among names name) has ∙ any_sorted name_cmp exact_bytes (λ other. is_eq (name_cmp name other)) named)
  where
    flipped : (a b : Bool) → (a && b) ≡ (b && a)
    flipped true true = refl
    flipped true false = refl
    flipped false true = refl
    flipped false false = refl

pub filter_next : (p : Name → Bool) (names before now : List Name) (i : ℕ) (name : Name) → i < length names → name ≡ get_or names i name → now ≡ (if p name then before ++ name ∷ [] else before) → before ≡ filter p (take i names) → now ≡ filter p (take (i + 1) names)
filter_next p names before now i name lt is put kept =
    put ∙ ap (λ all. if p name then all ++ name ∷ [] else all) kept
    ∙ sym (last_at (p name) refl)
    ∙ sym (filter-append p (take i names) (name ∷ []))
    ∙ ap (λ k. filter p (take i names ++ k ∷ [])) is
    ∙ sym (ap (filter p) (take_more names i name lt))
  where
    last_at : (b : Bool) → p name ≡ b → filter p (take i names) ++ filter p (name ∷ []) ≡ (if p name then filter p (take i names) ++ name ∷ [] else filter p (take i names))
    last_at true is = ap₂ (λ a b. filter p (take i names) ++ (if a then name ∷ [] else [])) is is ∙ sym (ap (λ a. if a then filter p (take i names) ++ name ∷ [] else filter p (take i names)) is)
    last_at false is = ap (λ a. filter p (take i names) ++ (if a then name ∷ [] else [])) is ∙ append-nil (filter p (take i names)) ∙ sym (ap (λ a. if a then filter p (take i names) ++ name ∷ [] else filter p (take i names)) is)

all_alike : (p q : Name → Bool) → ((name : Name) → p name ≡ q name) → (names : List Name) → list_all p names ≡ list_all q names
all_alike p q alike [] = refl
all_alike p q alike (name ∷ names) = ap₂ (λ b more. b && more) (alike name) (all_alike p q alike names)

pub among_set : (none set others names : List Name) (are : Bool) → none ≡ [] → set ≡ put_in name_cmp none others → are ≡ list_all (is_among set) names → are ≡ list_all (is_among others) names
among_set none set others names are empty put is =
    is ∙ all_alike (is_among set) (is_among others) (λ name. ap (λ keys. is_among keys name) (put ∙ ap (λ keys. put_in name_cmp keys others) empty) ∙ any_sorted name_cmp exact_bytes (λ other. is_eq (name_cmp name other)) others) names

pub none_alone : (named alone : List Name) → alone ≡ [] → AreCallsAlone named [] alone
none_alone named alone is name = ap (λ names. is_among names name) is

-- ---- clusters by their names

in_entries : (clusters : List ClusterEntry) (name : Name) (place : ℕ) → option_map (λ c. c.name) (slice_get clusters place) ≡ Some name → is_among (map (λ c. c.name) clusters) name ≡ true
in_entries [] name place is = absurd (cc is)
in_entries (c ∷ clusters) name zero is = ap (λ x. is_eq (name_cmp name x) || is_among (map (λ c. c.name) clusters) name) (cc is) ∙ ap (λ b. b || is_among (map (λ c. c.name) clusters) name) (itself name)
in_entries (c ∷ clusters) name (suc place) is = or_later (is_eq (name_cmp name c.name)) (is_among (map (λ c. c.name) clusters) name) (in_entries clusters name place is)

no_entries : (clusters : List ClusterEntry) (name : Name) → All (λ c. c.name ≢ name) clusters → is_among (map (λ c. c.name) clusters) name ≡ false
no_entries [] name none = refl
no_entries (c ∷ clusters) name none = at (is_eq (name_cmp name c.name)) refl (no_entries clusters name (All-tail (λ x. x.name ≢ name) c clusters none))
  where
    at : (b : Bool) → is_eq (name_cmp name c.name) ≡ b → is_among (map (λ c. c.name) clusters) name ≡ false → (b || is_among (map (λ c. c.name) clusters) name) ≡ false
    at true is more = absurd (All-head (λ x. x.name ≢ name) c clusters none (sym (same_name name c.name is)))
    at false is more = more

pub found_among : (clusters : List ClusterEntry) (name : Name) (place : Option ℕ) → IfSome place (λ i. option_map (λ c. c.name) (slice_get clusters i) ≡ Some name) → IsNone place ↔ All (λ c. c.name ≢ name) clusters →
    is_some place ≡ is_among (map (λ c. c.name) clusters) name
found_among clusters name None found none = sym (no_entries clusters name (none.0 refl))
found_among clusters name (Some i) found none = sym (in_entries clusters name i found)

names_again : (r : Resources) (names : List Name) → map (λ c. c.name) (map (cluster_entry r) names) ≡ names
names_again r [] = refl
names_again r (name ∷ names) = ap (λ more. name ∷ more) (names_again r names)

-- ---- roots

same_at : (named before now : Bool) → (now ≡ true → (named || before) ≡ true) → ((before && not named) ≡ true → now ≡ true) → (named || now) ≡ (named || before)
same_at true before now up down = refl
same_at false false false up down = refl
same_at false true true up down = refl
same_at false false true up down = sym (up refl)
same_at false true false up down = down refl

rest_same : (named before now : Bool) → (named || now) ≡ (named || before) → (before && not named) ≡ (now && not named)
rest_same true true true is = refl
rest_same true true false is = refl
rest_same true false true is = refl
rest_same true false false is = refl
rest_same false before now is = ap (λ b. b && true) (sym is)

module _ (named before now alone : List Name) (are : AreCallsAlone named before alone) where
  abbrev roots_of : List Name → List Name
  roots_of names = sorted name_cmp (named ++ names)

  in_roots : (names : List Name) (name : Name) → is_among (roots_of names) name ≡ (is_among named name || is_among names name)
  in_roots names name = any_sorted name_cmp exact_bytes (λ other. is_eq (name_cmp name other)) (named ++ names) ∙ list_any-append (λ other. is_eq (name_cmp name other)) named names

  each_same : roots_of now ≡ roots_of before → (name : Name) → (is_among named name || is_among now name) ≡ (is_among named name || is_among before name)
  each_same same name = sym (in_roots now name) ∙ ap (λ names. is_among names name) same ∙ in_roots before name

  stay : list_all (is_among (roots_of before)) now ≡ true → list_all (is_among now) alone ≡ true → roots_of now ≡ roots_of before
  stay all those =
      sorted_same name_cmp nat_list_cmp_total exact_bytes (named ++ now) (named ++ before)
      (λ name. list_any-append (λ other. is_eq (name_cmp name other)) named now
      ∙ same_at (is_among named name) (is_among before name) (is_among now name)
      (λ has. sym (in_roots before name) ∙ all_at (is_among (roots_of before)) now name all has)
      (λ left. all_at (is_among now) alone name those (are name ∙ left))
      ∙ sym (list_any-append (λ other. is_eq (name_cmp name other)) named before))

  all_rooted : roots_of now ≡ roots_of before → list_all (is_among (roots_of before)) now ≡ true
  all_rooted same =
      all_by (is_among (roots_of before)) now
      (λ name has. in_roots before name ∙ sym (each_same same name) ∙ or_later (is_among named name) (is_among now name) has)

  still : (name : Name) → (is_among named name || is_among now name) ≡ (is_among named name || is_among before name) → (is_among before name && not (is_among named name)) ≡ true → is_among now name ≡ true
  still name same left = at (is_among named name) (is_among before name) (is_among now name) same left
    where
      at : (named before now : Bool) → (named || now) ≡ (named || before) → (before && not named) ≡ true → now ≡ true
      at true true now is only = absurd (cc only)
      at true false now is only = absurd (cc only)
      at false before true is only = refl
      at false true false is only = is
      at false false false is only = only

  all_referred : roots_of now ≡ roots_of before → list_all (is_among now) alone ≡ true
  all_referred same = all_by (is_among now) alone (λ name has. still name (each_same same name) (sym (are name) ∙ has))

  both : roots_of now ≡ roots_of before → (list_all (is_among (roots_of before)) now && list_all (is_among now) alone) ≡ true
  both same = ap₂ (λ a b. a && b) (all_rooted same) (all_referred same)

  one_of : (a b : Bool) → (a && b) ≡ true → (a ≡ true) × (b ≡ true)
  one_of true true is = (refl, refl)
  one_of true false is = absurd (cc is)
  one_of false b is = absurd (cc is)

  from_both : (list_all (is_among (roots_of before)) now && list_all (is_among now) alone) ≡ true → roots_of now ≡ roots_of before
  from_both is = let (all, those) = one_of (list_all (is_among (roots_of before)) now) (list_all (is_among now) alone) is in stay all those

-- ---- what is kept, where calls refer to other clusters

module _ (r : Resources) (reached : List Key) (kept : Kept) (is : IsAssembledOf r reached kept) (now : List Name) where
  names_are : map (λ c. c.name) kept.config.clusters ≡ roots r kept.references
  names_are = ap (λ config. map (λ c. c.name) config.clusters) is.config_is ∙ names_again r (roots r kept.references)

  pub keeps_by : (keeps : Bool) → keeps ≡ (list_all (is_among (map (λ c. c.name) kept.config.clusters)) now && list_all (is_among now) kept.calls_alone) → IsTrue keeps ↔ KeepsRoots r kept.references now
  keeps_by keeps by =
      let same : keeps ≡ (list_all (is_among (roots r kept.references)) now && list_all (is_among now) kept.calls_alone) = by ∙ ap (λ names. list_all (is_among names) now && list_all (is_among now) kept.calls_alone) names_are in
      (λ yes. from_both (names_of (front r)) kept.references now kept.calls_alone is.alone_are (sym same ∙ yes), λ stays. same ∙ both (names_of (front r)) kept.references now kept.calls_alone is.alone_are stays)

  pub keeps_at : (clusters : List ClusterEntry) (alone names : List Name) (keeps : Bool) → clusters ≡ kept.config.clusters → alone ≡ kept.calls_alone → names ≡ now →
      keeps ≡ (list_all (is_among (map (λ c. c.name) clusters)) names && list_all (is_among names) alone) → IsTrue keeps ↔ KeepsRoots r kept.references now
  keeps_at clusters alone names keeps all those are by =
      keeps_by keeps (by
      ∙ ap (λ cs. list_all (is_among (map (λ c. c.name) cs)) names && list_all (is_among names) alone) all
      ∙ ap (λ ns. list_all (is_among (map (λ c. c.name) kept.config.clusters)) names && list_all (is_among names) ns) those
      ∙ ap (λ ns. list_all (is_among (map (λ c. c.name) kept.config.clusters)) ns && list_all (is_among ns) kept.calls_alone) are)

  pub assembled_for : KeepsRoots r kept.references now → IsAssembledOf r reached (kept_for kept now)
  assembled_for stays =
      let config_as : List Name → Config = λ names. record { front = unwrap_or (front r) (Err Reason.Absent); clusters = map (cluster_entry r) names } in
      record {
        reached_are = is.reached_are ∙ ap (λ names. sorted key_cmp (keys_with r (sorted name_cmp (on_chains (aggregates r) longest_chain names)))) (sym stays);
        awaited_are = is.awaited_are;
        config_is = is.config_is ∙ ap config_as (sym stays);
        sources_are = is.sources_are;
        front_waits = is.front_waits;
        alone_are = λ name. is.alone_are name ∙ rest_same (is_among (names_of (front r)) name) (is_among kept.references name) (is_among now name) (each_same (names_of (front r)) kept.references now kept.calls_alone is.alone_are stays name);
      }

-- ---- what was kept, taken out

pub same_kept : (kept : Kept) (now : List Name) → now ≡ kept.references → kept ≡ kept_for kept now
same_kept kept now same = ap (kept_for kept) (sym same)

module _ (now : List Name) where
  -- what was found is what was kept, with these references
  abbrev pub IsFoundOf : Option Kept → Option Kept → Type 0
  IsFoundOf found last = IfSome found (λ kept. IsSomeAnd last (λ before. kept ≡ kept_for before now))

  pub found_references : (found last : Option Kept) → IsFoundOf found last → IfSome found (λ kept. now ≡ kept.references)
  found_references None last is = tt
  found_references (Some kept) None is = absurd is
  found_references (Some kept) (Some before) is = sym (ap (λ k. k.references) is)

  pub found_stands : (found last : Option Kept) (shown : Option Config) → IsFoundOf found last → IfSome last (λ kept. StandAsShown kept.others shown kept.config) → IfSome found (λ kept. StandAsShown kept.others shown kept.config)
  found_stands None last shown is stand = tt
  found_stands (Some kept) None shown is stand = absurd is
  found_stands (Some kept) (Some before) shown is stand = subst (λ k. StandAsShown k.others shown k.config) (sym is) stand

  abbrev pub AllStay : Option Kept → Type 0
  AllStay last = IfSome last (λ before. (r : Resources) (reached : List Key) → IsAssembledOf r reached before → KeepsRoots r before.references now)

  pub found_right : (found last : Option Kept) (target : Target) (reached : List Key) → IsFoundOf found last → IfSome found (λ kept. AllStay last) →
      IfSome found (λ kept. (entries : List AuthorityEntry) (known : Watched) → IfSome last (IsKeptOf entries known target reached) → IsKeptOf entries known target reached kept)
  found_right None last target reached is stays = tt
  found_right (Some kept) None target reached is stays = absurd is
  found_right (Some kept) (Some before) target reached is stays = λ entries known right.
      subst (IsKeptOf entries known target reached) (sym is) record {
        assembled = assembled_for (resources target entries known) reached before right.assembled now (stays (resources target entries known) reached right.assembled);
        watched = right.watched;
        lawful = right.lawful;
      }

pub stays_of : (found : Option Kept) (last : Kept) (now : List Name) → ((r : Resources) (reached : List Key) → IsAssembledOf r reached last → IsSome found ↔ KeepsRoots r last.references now) →
    IfSome found (λ kept. (r : Resources) (reached : List Key) → IsAssembledOf r reached last → KeepsRoots r last.references now)
stays_of None last now each = tt
stays_of (Some kept) last now each = λ r reached is. (each r reached is).0 refl

pub if_any : {X : Type 0} (found : Option X) (P : Type 0) → P → IfSome found (λ x. P)
if_any None P is = tt
if_any (Some x) P is = is

pub kept_of : (entries : List AuthorityEntry) (known : Watched) (d : Managed) (last : Kept) → IsRightBy entries known d → d.last ≡ Some last → IsKeptOf entries known d.target d.reached last
kept_of entries known d last right is = subst (λ o. IfSome o (IsKeptOf entries known d.target d.reached)) is right

pub kept_at : (entries : List AuthorityEntry) (old new : Managed) (now : Watched) (changed : List Key) (found : Option Kept) (kept : Kept) → found ≡ Some kept → new ≡ record { target = old.target; reached = old.reached; last = None; shown = old.shown } →
    IfSome found (λ kept. (entries : List AuthorityEntry) (known : Watched) → IsRightBy entries known old → IsKeptOf entries known old.target old.reached kept) → HaveChanged entries old now changed →
    (known : Watched) × IsKeptOf entries known new.target new.reached kept × AreChanges known now changed
kept_at entries old new now changed found kept is rest right (known, was, changes) =
    let own : (entries : List AuthorityEntry) (known : Watched) → IsRightBy entries known old → IsKeptOf entries known old.target old.reached kept =
    subst (λ o. IfSome o (λ kept. (entries : List AuthorityEntry) (known : Watched) → IsRightBy entries known old → IsKeptOf entries known old.target old.reached kept)) is right in
    (known, subst (λ d. IsKeptOf entries known d.target d.reached kept) (sym rest) (own entries known was), changes)

-- something was found where the roots stay
abbrev pub FindsKept : Managed → List Key → List Name → Option Kept → Type 0
FindsKept old changed references found =
    (entries : List AuthorityEntry) (known now : Watched) (last : Kept) → IsRightBy entries known old → AreChanges known now changed → old.last ≡ Some last → KeepsRoots (resources old.target entries now) last.references references → are_endpoints changed ≡ true → IsSome found

pub none_found : (entries : List AuthorityEntry) (old : Managed) (now : Watched) (slice changed : List Key) (references : List Name) (found : Option Kept) (last : Kept) → slice ≡ changed → FindsKept old slice references found → found ≡ None →
    HaveChanged entries old now changed → old.last ≡ Some last → KeepsRoots (resources old.target entries now) last.references references → are_endpoints changed ≡ true → ⊥
none_found entries old now slice changed references found last same finds none (known, right, changes) is keeps endpoints =
    cc (subst IsSome none (subst (λ keys. FindsKept old keys references found) same finds entries known now last right changes is keeps endpoints))
