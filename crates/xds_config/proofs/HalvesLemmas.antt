-- The place for a name among clusters in the order of their names, by halves.
use Rattle.std.proofs.Common.{◌≡◌, ℕ, ◌<◌, ◌≤◌, ◌+◌, ◌⊎◌, inl, inr, List, length, get_or, Bool, true, false, Option, Some, None, refl, sym, ap, subst, ◌∙◌, arith, is_eq}
use Rattle.std.proofs.lemmas.Bool.{cases_lt}
use Rattle.std.proofs.lemmas.Cmp.{nat_list_cmp_total}
use Rattle.std.proofs.lemmas.Map.Text.{is_eq-slice_cmp}
use Rattle.std.proofs.lemmas.Option.{get_or_from_slice_get, slice_get-get_or, slice_get_within}
use Rattle.std.proofs.lemmas.Slice.Eq.{bytes_eq-Decides}
use Rattle.std.specs.Prelude.{slice_get, option_map, bytes_eq, position}
use Rattle.xds_config.specs.declared.config.ClusterEntry.{ClusterEntry}
use Rattle.xds_config.specs.SearchedLists.{AreByName, IsNameBefore, IsPlaceFor}
use Rattle.xds_config.proofs.SearchLemmas.{position_first, position_none}

-- clusters in front of the first place stand before the name, and those from the second on don't
pub record IsBetween (clusters : List ClusterEntry) (name : List ℕ) (from to : ℕ) : Type 0 where
  pub order : from ≤ to
  pub within : to ≤ length clusters
  pub before : (k : ℕ) (d : ClusterEntry) → k < from → IsNameBefore (get_or clusters k d).name name
  pub behind : (k : ℕ) (d : ClusterEntry) → to ≤ k → k < length clusters → IsNameBefore (get_or clusters k d).name name → ⊥

trans : (a b c : List ℕ) → IsNameBefore a b → IsNameBefore b c → IsNameBefore a c
trans a b c first second = nat_list_cmp_total.trans a b c first second

pub further : (clusters : List ClusterEntry) (name : List ℕ) (from to middle : ℕ) → AreByName clusters → IsBetween clusters name from to → middle < to → from ≤ middle →
    ((d : ClusterEntry) → IsNameBefore (get_or clusters middle d).name name) → IsBetween clusters name (middle + 1) to
further clusters name from to middle are is less least here = record {
  order = omega (arith, less);
  within = is.within;
  before = λ k d lt. by k d (cases_lt k middle) lt;
  behind = is.behind;
}
  where
    by : (k : ℕ) (d : ClusterEntry) → (k < middle) ⊎ (middle ≤ k) → k < middle + 1 → IsNameBefore (get_or clusters k d).name name
    by k d (inl earlier) lt = trans (get_or clusters k d).name (get_or clusters middle d).name name (are.rising k middle d earlier (omega (arith, less, is.within))) (here d)
    by k d (inr later) lt =
        let one : middle ≡ k = omega (arith, later, lt) in
        subst (λ n. IsNameBefore (get_or clusters n d).name name) one (here d)

pub nearer : (clusters : List ClusterEntry) (name : List ℕ) (from to middle : ℕ) → AreByName clusters → IsBetween clusters name from to → middle < to → from ≤ middle →
    ((d : ClusterEntry) → IsNameBefore (get_or clusters middle d).name name → ⊥) → IsBetween clusters name from middle
nearer clusters name from to middle are is less least here = record {
  order = least;
  within = omega (arith, less, is.within);
  before = is.before;
  behind = λ k d from_here lt. by k d (cases_lt middle k) from_here lt;
}
  where
    by : (k : ℕ) (d : ClusterEntry) → (middle < k) ⊎ (k ≤ middle) → middle ≤ k → k < length clusters → IsNameBefore (get_or clusters k d).name name → ⊥
    by k d (inl later) from_here lt before =
        here d (trans (get_or clusters middle d).name (get_or clusters k d).name name (are.rising middle k d later lt) before)
    by k d (inr earlier) from_here lt before =
        let one : k ≡ middle = omega (arith, earlier, from_here) in
        here d (subst (λ n. IsNameBefore (get_or clusters n d).name name) one before)

pub place_is : (clusters : List ClusterEntry) (name : List ℕ) (from to : ℕ) → IsBetween clusters name from to → to ≤ from → IsPlaceFor clusters name from
place_is clusters name from to is met = record {
  within = omega (arith, is.order, is.within, met);
  before = is.before;
  behind = λ k d least lt. is.behind k d (omega (arith, is.order, met, least)) lt;
}

-- ---- the cluster of the name stands at that place, or nowhere

fails : (a name : List ℕ) → IsNameBefore a name → bytes_eq a name ≡ false
fails a name before = sym (is_eq-slice_cmp a name) ∙ ap is_eq before

pub place_found : (clusters : List ClusterEntry) (name : List ℕ) (place : ℕ) → IsPlaceFor clusters name place → option_map (λ c. c.name) (slice_get clusters place) ≡ Some name →
    position (λ c. bytes_eq c.name name) clusters ≡ Some place
place_found clusters name place is named = by (slice_get clusters place) refl named
  where
    by : (found : Option ClusterEntry) → slice_get clusters place ≡ found → option_map (λ c. c.name) found ≡ Some name → position (λ c. bytes_eq c.name name) clusters ≡ Some place
    by None at none = absurd (cc)
    by (Some c) at some =
        let same : c.name ≡ name = cc in
        position_first (λ (c : ClusterEntry). bytes_eq c.name name) clusters place c (slice_get_within clusters place c at)
        ((bytes_eq-Decides (get_or clusters place c).name name).1 (ap (λ (c : ClusterEntry). c.name) (get_or_from_slice_get clusters place c c at) ∙ same))
        (λ k d lt. fails (get_or clusters k d).name name (is.before k d lt))

pub place_missed : (clusters : List ClusterEntry) (name : List ℕ) (place : ℕ) → AreByName clusters → IsPlaceFor clusters name place →
    (option_map (λ c. c.name) (slice_get clusters place) ≡ Some name → ⊥) → position (λ c. bytes_eq c.name name) clusters ≡ None
place_missed clusters name place are is other =
    position_none (λ (c : ClusterEntry). bytes_eq c.name name) clusters (λ k d lt. by k d lt (bytes_eq (get_or clusters k d).name name) refl (cases_lt k place))
  where
    here : (k : ℕ) (d : ClusterEntry) → k < length clusters → (get_or clusters k d).name ≡ name → place ≤ k → ⊥
    here k d lt same least = at (cases_lt place k)
      where
        at : (place < k) ⊎ (k ≤ place) → ⊥
        at (inl less) = is.behind place d (omega arith) (omega (arith, less, lt)) (subst (λ n. IsNameBefore (get_or clusters place d).name n) same (are.rising place k d less lt))
        at (inr late) =
            let one : k ≡ place = omega (arith, least, late) in
            other (subst (λ n. option_map (λ (c : ClusterEntry). c.name) (slice_get clusters n) ≡ Some name) one (ap (option_map (λ (c : ClusterEntry). c.name)) (slice_get-get_or clusters k d lt) ∙ ap Some same))

    by : (k : ℕ) (d : ClusterEntry) → k < length clusters → (b : Bool) → bytes_eq (get_or clusters k d).name name ≡ b → (k < place) ⊎ (place ≤ k) → b ≡ false
    by k d lt b is_b (inl less) = sym is_b ∙ fails (get_or clusters k d).name name (is.before k d less)
    by k d lt false is_b (inr least) = refl
    by k d lt true is_b (inr least) = absurd (here k d lt ((bytes_eq-Decides (get_or clusters k d).name name).0 is_b) least)
