-- Names of ascending places, each once, at its first place.
use Rattle.std.proofs.Common.{◌≡◌, ◌⊎◌, inl, inr, ℕ, ◌<◌, List, [], ◌∷◌, ◌++◌, Bool, true, false, refl, sym, ◌∙◌, ap, subst, length, get_or, map}
use Rattle.std.specs.Prelude.{◌≢◌, AllPairs}
use Rattle.std.specs.Str.{bytes_eq}
use Rattle.std.proofs.lemmas.Bool.{or_cases, true≢false}
use Rattle.std.proofs.lemmas.List.Folds.{list_any-append, list_any_at}
use Rattle.std.proofs.lemmas.List.Quantifiers.{all_pairs_push}
use Rattle.std.proofs.lemmas.Slice.Eq.{bytes_eq-Decides}
use Rattle.aggregate_expand.specs.LookedUp.{Name, has_name, with_names}
use Rattle.aggregate_expand.specs.Chains.{IsBefore}
use Rattle.aggregate_expand.proofs.NameLemmas.{has_left, has_last, with_name}
use Rattle.aggregate_expand.proofs.PlaceLemmas.{In, Placed, second, Ascends}

abbrev pub Ahead : (Placed → Type 0) → Name → Name → Type 0
Ahead M x y = (q : List ℕ) → M (q, y) → (p : List ℕ) × M (p, x) × IsBefore p q

pub record AreRanked (M : Placed → Type 0) (names : List Name) (done : List Placed) : Type 0 where
  pub cover : (e : Placed) → In e done → has_name names e.1 ≡ true
  pub source : (x : Name) → has_name names x ≡ true → (p : List ℕ) × In (p, x) done
  pub once : AllPairs (λ x y. x ≢ y) names
  pub pairs : AllPairs (Ahead M) names

pub has_at : (xs : List Name) (k : ℕ) (d : Name) → k < length xs → has_name xs (get_or xs k d) ≡ true
has_at xs k d lt = list_any_at (bytes_eq (get_or xs k d)) xs k d lt ((bytes_eq-Decides (get_or xs k d) (get_or xs k d)).1 refl)

rank_one : (M : Placed → Type 0) (b : Bool) (xs : List Name) (done : List Placed) (e : Placed) → has_name xs e.1 ≡ b → ((q : List ℕ) → M (q, e.1) → In (q, e.1) done ⊎ ((p : Placed) → In p done → IsBefore p.0 q)) → ((f : Placed) → In f done → M f) → AreRanked M xs done → AreRanked M (with_name b xs e.1) (e ∷ done)
rank_one M true xs done e is split into r = record {
  cover = λ f m. elim m [ inl w ↦ subst (λ g. has_name xs g.1 ≡ true) w is | inr w ↦ r.cover f w ];
  source = λ x h. let (p, m) = r.source x h in (p, inr m);
  once = r.once;
  pairs = r.pairs;
}
rank_one M false xs done e is split into r = record {
  cover = λ f m. elim m [ inl w ↦ subst (λ g. has_name (xs ++ e.1 ∷ []) g.1 ≡ true) w (has_last xs e.1) | inr w ↦ has_left xs (e.1 ∷ []) f.1 (r.cover f w) ];
  source = λ x h. elim (or_cases (has_name xs x) (has_name (e.1 ∷ []) x) (sym (list_any-append (bytes_eq x) xs (e.1 ∷ [])) ∙ h)) [ inl w ↦ (let (p, m) = r.source x w in (p, inr m)) | inr w ↦ (e.0, inl (ap (λ y. (e.0, y)) (sym (one x w)))) ];
  once = all_pairs_push (λ x y. x ≢ y) xs e.1 r.once (λ k d lt same. true≢false (sym (has_at xs k d lt) ∙ ap (has_name xs) same ∙ is));
  pairs = all_pairs_push (Ahead M) xs e.1 r.pairs (λ k d lt q m. ahead (get_or xs k d) (has_at xs k d lt) q (split q m));
}
  where
    one : (x : Name) → has_name (e.1 ∷ []) x ≡ true → x ≡ e.1
    one x w = elim (or_cases (bytes_eq x e.1) false w) [ inl v ↦ (bytes_eq-Decides x e.1).0 v | inr v ↦ absurd (true≢false (sym v)) ]

    ahead : (x : Name) → has_name xs x ≡ true → (q : List ℕ) → In (q, e.1) done ⊎ ((p : Placed) → In p done → IsBefore p.0 q) → (p : List ℕ) × M (p, x) × IsBefore p q
    ahead x h q (inl w) = absurd (true≢false (sym (r.cover (q, e.1) w) ∙ is))
    ahead x h q (inr w) = let (p, m) = r.source x h in (p, into (p, x) m, w (p, x) m)

pub record AreAllRanked (M : Placed → Type 0) (names : List Name) : Type 0 where
  pub cover : (e : Placed) → M e → has_name names e.1 ≡ true
  pub source : (x : Name) → has_name names x ≡ true → (p : List ℕ) × M (p, x)
  pub once : AllPairs (λ x y. x ≢ y) names
  pub pairs : AllPairs (Ahead M) names

pub rank : (M : Placed → Type 0) (rest : List Placed) (xs : List Name) (done : List Placed)
    → ((e : Placed) → M e → In e done ⊎ In e rest) → ((e : Placed) → In e done → M e) → ((e : Placed) → In e rest → M e)
    → ((e f : Placed) → In e done → In f rest → IsBefore e.0 f.0) → Ascends rest → AreRanked M xs done → AreAllRanked M (with_names xs (map second rest))
rank M [] xs done split into from apart up r = record {
  cover = λ e m. elim (split e m) [ inl w ↦ r.cover e w | inr w ↦ absurd w ];
  source = λ x h. let (p, m) = r.source x h in (p, into (p, x) m);
  once = r.once;
  pairs = r.pairs;
}
rank M (e ∷ rest) xs done split into from apart up r =
    rank M rest (with_name (has_name xs e.1) xs e.1) (e ∷ done)
    (λ f m. elim (split f m) [ inl w ↦ inl (inr w) | inr w ↦ moved f w ])
    (λ f m. elim m [ inl w ↦ from f (inl w) | inr w ↦ into f w ])
    (λ f m. from f (inr m))
    (λ f g m w. elim m [ inl v ↦ subst (λ d. IsBefore d.0 g.0) v (up.0 g w) | inr v ↦ apart f g v (inr w) ])
    up.1
    (rank_one M (has_name xs e.1) xs done e refl (λ q m. elim (split (q, e.1) m) [ inl w ↦ inl w | inr w ↦ inr (λ p v. apart p (q, e.1) v w) ]) into r)
  where
    moved : (f : Placed) → In f (e ∷ rest) → In f (e ∷ done) ⊎ In f rest
    moved f (inl w) = inl (inl w)
    moved f (inr w) = inr w
