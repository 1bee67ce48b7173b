-- The places of clusters by their names.
use Rattle.std.proofs.Common.{◌≡◌, ◌≢◌, ◌⊎◌, inl, inr, ℕ, ◌+◌, ◌<◌, ◌≤◌, Bool, true, false, not, nat_lt, cond, List, [], ◌∷◌, map, length, get_or, refl, sym, ap, ap₂, ◌∙◌, subst, arith, Option, Some, None, eq-eqb, eqb-true}
use Rattle.std.specs.Prelude.{◌==◌, AllPairs, option_map, position, slice_get, bytes_eq}
use Rattle.std.specs.List.{prefix_len}
use Rattle.std.specs.declared.cmp.Ordering.TheVariants.{Less}
use Rattle.std.specs.Ordering.{is_eq, nat_cmp}
use Rattle.std.specs.Cmp.Lexicographic.{slice_cmp}
use Rattle.std.proofs.lemmas.Map.Text.{is_eq-slice_cmp}
use Rattle.std.proofs.lemmas.Option.{get_or_from_slice_get, slice_get-map, slice_get_within}
use Rattle.std.proofs.lemmas.Slice.Eq.{bytes_eq-Decides}
use Rattle.std.proofs.lemmas.Bool.{cases_lt}
use Rattle.std.proofs.lemmas.List.{length-map}
use Rattle.xds_config.specs.declared.config.ClusterEntry.{ClusterEntry}
use Rattle.xds_config.specs.Configs.{IsNameBefore}
use Rattle.xds_config.proofs.PlaceLemmas.{none_named}
use Rattle.book_trees.specs.config_assembly.Orders.{Name, name_cmp}
use Rattle.book_picks.specs.NamedPlaces.{ArePlacesOf, place_named}

-- ---- names

its_own : (name : Name) → is_eq (name_cmp name name) ≡ true
its_own name = is_eq-slice_cmp name name ∙ (bytes_eq-Decides name name).1 refl

not_both : (b : Bool) → (b ≡ true → ⊥) → b ≡ false
not_both true never = absurd (never refl)
not_both false never = refl

another : (name other : Name) → other ≢ name → is_eq (name_cmp name other) ≡ false
another name other differ = not_both (is_eq (name_cmp name other)) (λ is. differ (sym ((bytes_eq-Decides name other).0 (sym (is_eq-slice_cmp name other) ∙ is))))

never_before_itself : (name : Name) → slice_cmp nat_cmp name name ≡ Less → ⊥
never_before_itself name is = let e = its_own name in let l = ap is_eq is in cc

apart_by : (clusters : List ClusterEntry) → AllPairs (λ a b. IsNameBefore a.name b.name) clusters → (i j : ℕ) (a b : ClusterEntry) → slice_get clusters i ≡ Some a → slice_get clusters j ≡ Some b → i < j → a.name ≢ b.name
apart_by clusters rising i j a b at also less same =
    let within = slice_get_within clusters j b also in
    let before = rising i j a less within in
    let first : get_or clusters i a ≡ a = get_or_from_slice_get clusters i a a at in
    let second : get_or clusters j a ≡ b = get_or_from_slice_get clusters j b a also in
    never_before_itself b.name (subst (λ n. slice_cmp nat_cmp n b.name ≡ Less) same (subst (λ c. slice_cmp nat_cmp a.name c.name ≡ Less) second (subst (λ c. slice_cmp nat_cmp c.name (get_or clusters j a).name ≡ Less) first before)))

-- clusters at two places have two names
names_differ : (clusters : List ClusterEntry) → AllPairs (λ a b. IsNameBefore a.name b.name) clusters → (i j : ℕ) (a b : ClusterEntry) → slice_get clusters i ≡ Some a → slice_get clusters j ≡ Some b → i ≢ j → a.name ≢ b.name
names_differ clusters rising i j a b at also differ same = by_order (cases_lt i j)
  where
    by_order : (i < j) ⊎ (j ≤ i) → ⊥
    by_order (inl less) = apart_by clusters rising i j a b at also less same
    by_order (inr not_less) = let less : j < i = omega arith in apart_by clusters rising j i b a also at less (sym same)

-- ---- one place more

-- a place put in under a name
abbrev pub PutsPlace : List (Name × ℕ) → List (Name × ℕ) → Name → ℕ → Type 0
PutsPlace old new name place = (other : Name) → place_named new other ≡ cond (is_eq (name_cmp name other)) (Some place) (place_named old other)

place_put : (old new : List (Name × ℕ)) (name : Name) (place : ℕ) → PutsPlace old new name place → place_named new name ≡ Some place
place_put old new name place puts = puts name ∙ ap (λ b. cond b (Some place) (place_named old name)) (its_own name)

others_stay : (old new : List (Name × ℕ)) (name : Name) (place : ℕ) → PutsPlace old new name place → (other : Name) → other ≢ name → place_named new other ≡ place_named old other
others_stay old new name place puts other differ = puts other ∙ ap (λ b. cond b (Some place) (place_named old other)) (another name other differ)

-- each cluster before this place is found, and no name that none has
pub record ArePlacesTo (i : ℕ) (clusters : List ClusterEntry) (places : List (Name × ℕ)) : Type 0 where
  pub each : (place : ℕ) (entry : ClusterEntry) → place < i → slice_get clusters place ≡ Some entry → place_named places entry.name ≡ Some place
  pub others : (name : Name) → position (λ c. bytes_eq c.name name) clusters ≡ None → place_named places name ≡ None

pub no_places : (clusters : List ClusterEntry) (places : List (Name × ℕ)) → places ≡ [] → ArePlacesTo 0 clusters places
no_places clusters places none = record {
  each = λ place entry less. absurd (omega arith);
  others = λ name absent. ap (λ es. place_named es name) none;
}

pub all_places : (i : ℕ) (clusters : List ClusterEntry) (places : List (Name × ℕ)) → length clusters ≤ i → ArePlacesTo i clusters places → ArePlacesOf clusters places
all_places i clusters places all are = record {
  each = λ place entry is.
      let within = slice_get_within clusters place entry is in
      let less : place < i = omega arith in are.each place entry less is;
  others = are.others;
}

module _ (i : ℕ) (clusters : List ClusterEntry) (old new : List (Name × ℕ)) (own : ClusterEntry) (rising : AllPairs (λ a b. IsNameBefore a.name b.name) clusters) (at : slice_get clusters i ≡ Some own) (puts : PutsPlace old new own.name i) where
  one : (o : Option ClusterEntry) (a b : ClusterEntry) → o ≡ Some a → o ≡ Some b → a ≡ b
  one o a b is also = cc

  each_at : (place : ℕ) (entry : ClusterEntry) (b : Bool) → (place == i) ≡ b → place < i + 1 → slice_get clusters place ≡ Some entry → ArePlacesTo i clusters old → place_named new entry.name ≡ Some place
  each_at place entry true same less is are =
      let e : place ≡ i = eqb-true place i same in
      let its : own ≡ entry = one (slice_get clusters i) own entry at (ap (λ p. slice_get clusters p) (sym e) ∙ is) in
      ap (λ c. place_named new c.name) (sym its) ∙ place_put old new own.name i puts ∙ ap (λ p. Some p) (sym e)
  each_at place entry false other less is are =
      let differ : place ≢ i = λ e. let yes = eq-eqb place i e in cc in
      let before : place < i = omega arith in
      others_stay old new own.name i puts entry.name (names_differ clusters rising place i entry own is at differ) ∙ are.each place entry before is

  pub one_place_more : ArePlacesTo i clusters old → ArePlacesTo (i + 1) clusters new
  one_place_more are = record {
    each = λ place entry less is. each_at place entry (place == i) refl less is are;
    others = λ name none. others_stay old new own.name i puts name (unnamed name none) ∙ are.others name none;
  }
    where
      unnamed : (name : Name) → position (λ c. bytes_eq c.name name) clusters ≡ None → name ≢ own.name
      unnamed name none same = none_named clusters name none i own (slice_get_within clusters i own at) (ap (λ c. c.name) (get_or_from_slice_get clusters i own own at) ∙ sym same)

-- ---- where the names stay

unnamed_front : (name : Name) (clusters : List ClusterEntry) → prefix_len (λ other. not (bytes_eq other name)) (map (λ c. c.name) clusters) ≡ prefix_len (λ c. not (bytes_eq c.name name)) clusters
unnamed_front name [] = refl
unnamed_front name (c ∷ clusters) = ap (λ (n : ℕ). cond (not (bytes_eq c.name name)) (1 + n) 0) (unnamed_front name clusters)

place_by_name : (name : Name) (clusters : List ClusterEntry) → position (λ other. bytes_eq other name) (map (λ c. c.name) clusters) ≡ position (λ c. bytes_eq c.name name) clusters
place_by_name name clusters = ap₂ (λ (n long : ℕ). cond (nat_lt n long) (Some n) None) (unnamed_front name clusters) (length-map clusters (λ (c : ClusterEntry). c.name))

-- a name that no cluster has now had none before
unnamed_before : (old new : List ClusterEntry) (name : Name) → map (λ c. c.name) old ≡ map (λ c. c.name) new → position (λ c. bytes_eq c.name name) new ≡ None → position (λ c. bytes_eq c.name name) old ≡ None
unnamed_before old new name same none = sym (place_by_name name old) ∙ ap (position (λ other. bytes_eq other name)) same ∙ place_by_name name new ∙ none

-- the cluster that stood at a place
pub record StoodAt (clusters : List ClusterEntry) (place : ℕ) (name : Name) : Type 0 where
  pub entry : ClusterEntry
  pub entry_is : slice_get clusters place ≡ Some entry
  pub name_is : entry.name ≡ name

named_entry : (clusters : List ClusterEntry) (place : ℕ) (name : Name) (o : Option ClusterEntry) → slice_get clusters place ≡ o → option_map (λ c. c.name) o ≡ Some name → StoodAt clusters place name
named_entry clusters place name None is named = absurd (cc named)
named_entry clusters place name (Some entry) is named = record { entry = entry; entry_is = is; name_is = cc }

-- it has the name of the one that stands there now
pub stood_at : (old new : List ClusterEntry) (place : ℕ) (entry : ClusterEntry) → map (λ c. c.name) old ≡ map (λ c. c.name) new → slice_get new place ≡ Some entry → StoodAt old place entry.name
stood_at old new place entry same is =
    named_entry old place entry.name (slice_get old place) refl
    (sym (slice_get-map (λ (c : ClusterEntry). c.name) old place) ∙ ap (λ ns. slice_get ns place) same ∙ slice_get-map (λ (c : ClusterEntry). c.name) new place ∙ ap (option_map (λ (c : ClusterEntry). c.name)) is)

pub places_stay : (old new : List ClusterEntry) (places : List (Name × ℕ)) → map (λ c. c.name) old ≡ map (λ c. c.name) new → ArePlacesOf old places → ArePlacesOf new places
places_stay old new places same are = record {
  each = λ place entry is.
      let stood = stood_at old new place entry same is in
      ap (place_named places) (sym stood.name_is) ∙ are.each place stood.entry stood.entry_is;
  others = λ name none. are.others name (unnamed_before old new name same none);
}
