-- What the rules on localities make sure of.
use Rattle.std.proofs.Common.{◌≡◌, ◌≢◌, ℕ, ◌<◌, ◌≤◌, ◌+◌, ◌^◌, ◌⊎◌, inl, inr, List, [], ◌∷◌, length, get_or, Bool, true, false, refl, sym, ap, ◌∙◌, subst, arith, eqb-true, eq-eqb, All, AllPairs, Contains, true≢false, Ok, zero, suc}
use Rattle.std.specs.Prelude.{◌==◌, ◌&&◌, bytes_eq}
use Rattle.std.specs.List.{list_all, list_any}
use Rattle.std.proofs.lemmas.List.Sorted.{All-permutation, length_permutation}
use Rattle.std.proofs.lemmas.Slice.Eq.{bytes_eq-Decides}
use Rattle.xc_base.specs.declared.reason.Reason.{Reason}
use Rattle.xds_config.specs.declared.endpoint_values.Locality.{Locality}
use Rattle.xds_config.specs.Endpoints.{AreLocalities, IsLawfulLocality, priorities_of}
use Rattle.check_clusters.specs.Assignments.{by_priority, is_same_place, stand_once, have_weights, has_no_gap, have_no_gap, stand_soundly}
use Rattle.check_steps.specs.TableSteps.{◌>>=◌, demand}
use Rattle.check_clusters.proofs.TestLemmas.{both, either_true}
use Rattle.check_clusters.proofs.OrderLemmas.{by_priority_ascends, by_priority_same, all_ascend}
use Rattle.check_clusters.proofs.WeightLemmas.{all_within}
use Rattle.check_clusters.proofs.OnceLemmas.{AreApart, apart}

-- ---- all three rules hold

three : (a b c : Bool) (r s t : Reason) → (demand a r >>= λ x. demand b s >>= λ y. demand c t) ≡ Ok tt → (a ≡ true) × ((b ≡ true) × (c ≡ true))
three true true true r s t h = (refl, (refl, refl))
three true true false r s t h = absurd (cc)
three true false c r s t h = absurd (cc)
three false b c r s t h = absurd (cc)

sound_parts : (ls : List Locality) → stand_soundly ls ≡ Ok tt → (stand_once ls ≡ true) × ((have_weights ls ≡ true) × (have_no_gap ls ≡ true))
unfolding stand_soundly
sound_parts ls h = three (stand_once ls) (have_weights ls) (have_no_gap ls) _ _ _ h

-- ---- each stands once

same_at : (a b : Locality) → a.priority ≡ b.priority → a.id ≡ b.id → is_same_place a b ≡ true
same_at a b at id =
    all_true (a.priority == b.priority) (bytes_eq a.id.region b.id.region) (bytes_eq a.id.zone b.id.zone) (bytes_eq a.id.sub_zone b.id.sub_zone)
    (eq-eqb a.priority b.priority at)
    ((bytes_eq-Decides a.id.region b.id.region).1 (ap (λ i. i.region) id))
    ((bytes_eq-Decides a.id.zone b.id.zone).1 (ap (λ i. i.zone) id))
    ((bytes_eq-Decides a.id.sub_zone b.id.sub_zone).1 (ap (λ i. i.sub_zone) id))
  where
    all_true : (p q r s : Bool) → p ≡ true → q ≡ true → r ≡ true → s ≡ true → (p && (q && (r && s))) ≡ true
    all_true true true true s hp hq hr hs = hs
    all_true true true false s hp hq hr hs = absurd (cc)
    all_true true false r s hp hq hr hs = absurd (cc)
    all_true false q r s hp hq hr hs = absurd (cc)

each_once : (ls : List Locality) → AreApart ls → AllPairs (λ a b. a.priority ≡ b.priority → a.id ≢ b.id) ls
each_once ls h = λ i j d lt within at id. true≢false (sym (same_at (get_or ls i d) (get_or ls j d) at id) ∙ h i j d lt within)

-- ---- no priority is missing

later : (p q : ℕ) (ps : List ℕ) → Contains ps p → Contains (q ∷ ps) p
later p q ps has = (suc has.0, omega (arith, has.1), has.2)

one_at : (p : ℕ) (l : Locality) (ls : List Locality) → (list_any (λ m. m.priority + 1 == p + 1) ls ≡ true → Contains (priorities_of ls) p)
    → ((l.priority + 1 == p + 1) ≡ true) ⊎ (list_any (λ m. m.priority + 1 == p + 1) ls ≡ true) → Contains (l.priority ∷ priorities_of ls) p
one_at p l ls more (inl is) = (0, omega arith, (let e = eqb-true (l.priority + 1) (p + 1) is in omega arith))
one_at p l ls more (inr has) = later p l.priority (priorities_of ls) (more has)

one_of : (p : ℕ) (ls : List Locality) → list_any (λ l. l.priority + 1 == p + 1) ls ≡ true → Contains (priorities_of ls) p
one_of p [] h = absurd (cc)
one_of p (l ∷ ls) h = one_at p l ls (one_of p ls) (either_true (l.priority + 1 == p + 1) (list_any (λ m. m.priority + 1 == p + 1) ls) h)

closed_at : (p : ℕ) (whole ls : List Locality) → list_all (λ l. has_no_gap whole l.priority) ls ≡ true → (k : ℕ) → k < length (priorities_of ls) → get_or (priorities_of ls) k p ≡ p → has_no_gap whole p ≡ true
closed_at p whole [] h k lt is = absurd (omega arith)
closed_at p whole (l ∷ ls) h zero lt is = subst (λ n. has_no_gap whole n ≡ true) is (both (has_no_gap whole l.priority) (list_all (λ m. has_no_gap whole m.priority) ls) h).0
closed_at p whole (l ∷ ls) h (suc k) lt is = closed_at p whole ls (both (has_no_gap whole l.priority) (list_all (λ m. has_no_gap whole m.priority) ls) h).1 k (omega arith) is

gapless : (ls : List Locality) → have_no_gap ls ≡ true → (p : ℕ) → Contains (priorities_of ls) (p + 1) → Contains (priorities_of ls) p
gapless ls h p has = at (either_true (p + 1 == 0) (list_any (λ l. l.priority + 1 == p + 1) ls) (closed_at (p + 1) ls ls h has.0 has.1 has.2))
  where
    at : ((p + 1 == 0) ≡ true) ⊎ (list_any (λ l. l.priority + 1 == p + 1) ls ≡ true) → Contains (priorities_of ls) p
    at (inl none) = absurd (let e = eqb-true (p + 1) 0 none in omega arith)
    at (inr below) = one_of p ls below

-- ---- the whole

pub lawful : (found ls : List Locality) → ls ≡ by_priority found → All IsLawfulLocality found → length found < 2 ^ 31 → stand_soundly ls ≡ Ok tt → AreLocalities ls
lawful found ls is each few sound =
    let rules = sound_parts ls sound in
    let same = by_priority_same found in
    record {
      each = subst (λ ms. All IsLawfulLocality ms) (sym is) (All-permutation IsLawfulLocality found (by_priority found) same each);
      ascending = subst (λ ms. AllPairs (λ a b. a.priority ≤ b.priority) ms) (sym is) (all_ascend (by_priority found) (by_priority_ascends found));
      once = each_once ls (apart ls rules.0);
      weights = all_within ls rules.1.0;
      gapless = gapless ls rules.1.1;
      few = subst (λ ms. length ms < 2 ^ 31) (sym is) (subst (λ n. n < 2 ^ 31) (sym (length_permutation found (by_priority found) same)) few);
    }
