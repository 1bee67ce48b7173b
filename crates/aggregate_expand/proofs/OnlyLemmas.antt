-- The leaves are one list: there is no other with each leaf once, by its least places.
use Rattle.std.proofs.Common.{◌≡◌, ◌⊎◌, inl, inr, ℕ, suc, ◌+◌, ◌<◌, List, [], ◌∷◌, ◌++◌, Bool, true, false, refl, sym, ◌∙◌, ap, subst, arith, length, get_or, map, append_assoc, append-nil, length-append}
use Rattle.std.specs.Prelude.{◌≢◌, AllPairs, Contains}
use Rattle.std.specs.Str.{bytes_eq}
use Rattle.std.specs.declared.cmp.Ordering.TheVariants.{Less, Greater}
use Rattle.std.specs.Ordering.{ordering_reverse}
use Rattle.std.proofs.Math.ListN.{get_or-append}
use Rattle.std.proofs.Math.Seq.{get_or-append_seam}
use Rattle.std.proofs.lemmas.Bool.{or_cases, true≢false}
use Rattle.std.proofs.lemmas.Cmp.{nat_list_cmp_total}
use Rattle.std.proofs.lemmas.List.{get_or-append-add}
use Rattle.std.proofs.lemmas.List.Folds.{list_any-append}
use Rattle.std.proofs.lemmas.Slice.Eq.{bytes_eq-Decides}
use Rattle.aggregate_expand.specs.LookedUp.{Name, has_name, with_names}
use Rattle.aggregate_expand.specs.Chains.{Table, LeadsTo, IsBefore, AreLeaves}
use Rattle.aggregate_expand.specs.Leaves.{goes_on, ends}
use Rattle.aggregate_expand.proofs.NameLemmas.{with_name, has_left, has_last}
use Rattle.aggregate_expand.proofs.PlaceLemmas.{In, Placed, second, placed, names, leads, Ascends, ascends}
use Rattle.aggregate_expand.proofs.RankLemmas.{Ahead, AreAllRanked}
use Rattle.aggregate_expand.proofs.PathLemmas.{contained, container, listed_there}

-- ---- members before and behind one

within : {X : Type 0} (xs : List X) (y : X) (ys : List X) (k : ℕ) → k < suc (length ys) → length xs + k < length (xs ++ y ∷ ys)
within xs y ys k lt = rw (length-append xs (y ∷ ys)) (omega arith)

not_twice : (xs : List Name) (y : Name) (ys : List Name) → AllPairs (λ x z. x ≢ z) (xs ++ y ∷ ys) → has_name xs y ≡ true → ⊥
not_twice xs y ys once has =
    let (k, lt, at) = contained xs y has in
    let fits = within xs y ys 0 (omega arith) in
    let inside : length xs < length (xs ++ y ∷ ys) = omega arith in
    once k (length xs) y lt inside (get_or-append xs (y ∷ ys) y k lt ∙ at ∙ sym (get_or-append_seam xs y ys y))

pair_at : (R : Name → Name → Type 0) (xs : List Name) (y : Name) (ys : List Name) (z : Name) → AllPairs R (xs ++ y ∷ ys) → Contains ys z → R y z
pair_at R xs y ys z pairs (k, lt, at) =
    let later = pairs (length xs) (length xs + suc k) z (omega arith) (within xs y ys (suc k) (omega arith)) in
    subst (λ x. R x z) (get_or-append_seam xs y ys z)
    (subst (λ x. R (get_or (xs ++ y ∷ ys) (length xs) z) x) (get_or-append-add xs (y ∷ ys) (suc k) z ∙ at) later)

less_or_greater : Less ≡ Greater → ⊥
less_or_greater is = cc

not_both : (path other : List ℕ) → IsBefore path other → IsBefore other path → ⊥
not_both path other one two = less_or_greater (sym one ∙ nat_list_cmp_total.antisymm path other ∙ ap ordering_reverse two)

-- ---- one place more

-- the next name of the list is that of the first place whose name isn't there yet
next_is : (M : Placed → Type 0) (e : Placed) (rest done : List Placed) (front : List Name) (y : Name) (back : List Name) → has_name front e.1 ≡ false → M e →
    AreAllRanked M (front ++ y ∷ back) → ((f : Placed) → In f done → has_name front f.1 ≡ true) → ((f : Placed) → M f → In f done ⊎ In f (e ∷ rest)) → ((f : Placed) → In f rest → IsBefore e.0 f.0) → y ≡ e.1
next_is M e rest done front y back absent placed_there ranked covered split up =
    elim (or_cases (has_name front e.1) (has_name (y ∷ back) e.1) (sym (list_any-append (bytes_eq e.1) front (y ∷ back)) ∙ ranked.cover e placed_there)) [
      | inl has ↦ absurd (true≢false (sym has ∙ absent))
      | inr has ↦ elim (or_cases (bytes_eq e.1 y) (has_name back e.1) has) [
        | inl same ↦ sym ((bytes_eq-Decides e.1 y).0 same)
        | inr later ↦ behind (pair_at (Ahead M) front y back e.1 ranked.pairs (contained back e.1 later) e.0 placed_there)
      ]
    ]
  where
    behind : (path : List ℕ) × M (path, y) × IsBefore path e.0 → y ≡ e.1
    behind (path, there, before) =
        elim (split (path, y) there) [
          | inl old ↦ absurd (not_twice front y back ranked.once (covered (path, y) old))
          | inr new ↦ elim new [ inl same ↦ sym (ap second same) | inr after ↦ absurd (not_both path e.0 before (up (path, y) after)) ]
        ]

abbrev Goes : (Placed → Type 0) → List Placed → List Placed → Type 0
Goes M rest done = (front back : List Name) → AreAllRanked M (front ++ back) → ((f : Placed) → In f done → has_name front f.1 ≡ true) → with_names front (map second rest) ≡ front ++ back

one_more : (M : Placed → Type 0) (e : Placed) (rest done : List Placed) (front back : List Name) (b : Bool) → has_name front e.1 ≡ b → Goes M rest (e ∷ done) → M e →
    AreAllRanked M (front ++ back) → ((f : Placed) → In f done → has_name front f.1 ≡ true) → ((f : Placed) → M f → In f done ⊎ In f (e ∷ rest)) → ((f : Placed) → In f rest → IsBefore e.0 f.0) →
    with_names (with_name b front e.1) (map second rest) ≡ front ++ back
one_more M e rest done front back true is again there ranked covered split up =
    again front back ranked (λ f m. elim m [ inl same ↦ subst (λ g. has_name front g.1 ≡ true) same is | inr old ↦ covered f old ])
one_more M e rest done front [] false is again there ranked covered split up =
    absurd (true≢false (sym (ranked.cover e there) ∙ ap (λ xs. has_name xs e.1) (append-nil front) ∙ is))
one_more M e rest done front (y ∷ back) false is again there ranked covered split up =
    let same = next_is M e rest done front y back is there ranked covered split up in
    let joined = append_assoc front (y ∷ []) back in
    ap (λ x. with_names (front ++ x ∷ []) (map second rest)) (sym same)
    ∙ again (front ++ y ∷ []) back (subst (λ xs. AreAllRanked M xs) (sym joined) ranked)
    (λ f m. elim m [ inl first ↦ subst (λ x. has_name (front ++ y ∷ []) x ≡ true) (same ∙ ap second first) (has_last front y) | inr old ↦ has_left front (y ∷ []) f.1 (covered f old) ])
    ∙ joined

-- ---- all places

all_placed : (M : Placed → Type 0) (rest done : List Placed) → ((f : Placed) → M f → In f done ⊎ In f rest) → ((f : Placed) → In f rest → M f) → Ascends rest → Goes M rest done
all_placed M [] done split into up front [] ranked covered = sym (append-nil front)
all_placed M [] done split into up front (y ∷ back) ranked covered =
    let (path, there) = ranked.source y (has_middle front y back) in
    elim (split (path, y) there) [ inl old ↦ absurd (not_twice front y back ranked.once (covered (path, y) old)) | inr none ↦ absurd none ]
  where
    has_middle : (front : List Name) (y : Name) (back : List Name) → has_name (front ++ y ∷ back) y ≡ true
    has_middle front y back = subst (λ xs. has_name xs y ≡ true) (append_assoc front (y ∷ []) back) (has_left (front ++ y ∷ []) back y (has_last front y))
all_placed M (e ∷ rest) done split into up front back ranked covered =
    one_more M e rest done front back (has_name front e.1) refl
    (all_placed M rest (e ∷ done) (λ f m. moved f (split f m)) (λ f m. into f (inr m)) up.1)
    (into e (inl refl)) ranked covered split up.0
  where
    moved : (f : Placed) → In f done ⊎ In f (e ∷ rest) → In f (e ∷ done) ⊎ In f rest
    moved f (inl old) = inl (inr old)
    moved f (inr (inl same)) = inl (inl same)
    moved f (inr (inr new)) = inr new

pub leaves_are_one : (table : Table) (most : ℕ) (cluster : Name) (leaves : List Name) → goes_on table most cluster ≡ false → AreLeaves table cluster leaves → with_names [] (ends table most cluster) ≡ leaves
leaves_are_one table most cluster leaves short are =
    ap (with_names []) (sym (names table most cluster))
    ∙ all_placed M (placed table most cluster) [] (λ e m. inr (listed_there table most cluster short e m)) (leads table most cluster) (ascends table most cluster) [] leaves ranked (λ e m. absurd m)
  where
    M : Placed → Type 0
    M e = LeadsTo table cluster e.0 e.1

    ranked : AreAllRanked M leaves
    ranked = record {
      cover = λ e m. container leaves e.1 (are.all e.1 e.0 m);
      source = λ x has. are.led x (contained leaves x has);
      once = are.once;
      pairs = are.ordered;
    }
