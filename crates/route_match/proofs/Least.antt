-- The member of the least place among those that pass a test, in a list of rising places.
use Rattle.std.proofs.Common.{◌≡◌, ℕ, suc, ◌+◌, ◌<◌, ◌≤◌, List, [], ◌∷◌, ◌++◌, length, take, drop, get_or, filter, Bool, true, false, cond, Some, refl, sym, ap, ◌∙◌, inl, inr, arith, zero-add}
use Rattle.std.proofs.lemmas.Bool.{cases_lt}
use Rattle.std.proofs.lemmas.Bool.Decides.{nat_tests}
use Rattle.std.proofs.lemmas.List.{take-append-drop, drop_more, get_or-drop, get_or-take, get_or_read, length-drop, length-take-le}
use Rattle.std.proofs.lemmas.List.Elements.{filter-append, All-filter, All-tail, All-head, All-weaker}
use Rattle.std.proofs.lemmas.List.Sums.{list_all-from_AllPass, sum_by-cons, sum_by-take-drop}
use Rattle.std.specs.Prelude.{nat_le, All, AllPairs}
use Rattle.std.specs.List.{list_all, find, count_by}

module _ {X : Type 0} (met : X → Bool) (place : X → ℕ) where
  -- where none of the first passes, and the next one does, it is the first that is kept
  kept_from : (xs : List X) (i : ℕ) (x : X) → i < length xs → x ≡ get_or xs i x → filter met (take i xs) ≡ [] → met x ≡ true → filter met xs ≡ x ∷ filter met (drop (i + 1) xs)
  kept_from xs i x lt is none passes =
      ap (filter met) (sym (take-append-drop i xs))
      ∙ (filter-append met (take i xs) (drop i xs)
      ∙ (ap (λ (front : List X). front ++ filter met (drop i xs)) none
      ∙ (ap (filter met) (drop_more xs i x lt ∙ ap (λ (y : X). y ∷ drop (i + 1) xs) (sym is))
      ∙ ap (λ (b : Bool). cond b (x ∷ filter met (drop (i + 1) xs)) (filter met (drop (i + 1) xs))) passes)))

  -- the places that follow are greater
  above : (xs : List X) (i : ℕ) (x : X) → i < length xs → x ≡ get_or xs i x → AllPairs (λ a b. place a < place b) xs → All (λ s. place x < place s) (drop (i + 1) xs)
  above xs i x lt is rising = λ k d within.
      let size = length-drop (i + 1) xs in
      let order = rising i (i + 1 + k) d (omega arith) (omega arith) in
      let here = ap place (get_or_read xs i x lt is d) in
      let there = ap place (get_or-drop (i + 1) xs k d) in
      omega arith

  -- the places before are not
  up_to : (xs : List X) (i : ℕ) (x : X) → i < length xs → x ≡ get_or xs i x → AllPairs (λ a b. place a < place b) xs → All (λ s. place s ≤ place x) (take (i + 1) xs)
  up_to xs i x lt is rising = λ k d within.
      let size = length-take-le (i + 1) xs (omega arith) in
      let here = ap place (get_or_read xs i x lt is d) in
      let there = ap place (get_or-take (i + 1) xs k d (omega arith)) in
      elim (cases_lt k i) [
        | inl before ↦ (let order = rising k i d before lt in omega arith)
        | inr after ↦ (let same : k ≡ i = omega arith in let at = ap (λ (n : ℕ). place (get_or xs n d)) same in omega arith)
      ]

  pub least_is : (xs : List X) (i : ℕ) (x : X) → i < length xs → x ≡ get_or xs i x → AllPairs (λ a b. place a < place b) xs → filter met (take i xs) ≡ [] → met x ≡ true
      → find (λ r. list_all (λ s. nat_le (place r) (place s)) (filter met xs)) (filter met xs) ≡ Some x
  least_is xs i x lt is rising none passes =
      let kept = kept_from xs i x lt is none passes in
      let rest = drop (i + 1) xs in
      let own : nat_le (place x) (place x) ≡ true = grind (arith, nat_tests) in
      let greater : All (λ s. nat_le (place x) (place s) ≡ true) rest =
      All-weaker (λ s. place x < place s) (λ s. nat_le (place x) (place s) ≡ true) (λ s order. grind (arith, nat_tests)) rest (above xs i x lt is rising) in
      let all = list_all-from_AllPass (λ s. nat_le (place x) (place s)) (filter met rest) (All-filter met (λ s. nat_le (place x) (place s) ≡ true) rest greater) in
      ap (λ (ks : List X). find (λ r. list_all (λ s. nat_le (place r) (place s)) ks) ks) kept ∙ rw (own, all) refl

  count_all : (p : X → Bool) (xs : List X) → All (λ y. p y ≡ true) xs → count_by p xs ≡ length xs
  count_all p [] h = refl
  count_all p (x ∷ xs) h =
      let more : 1 + length xs ≡ suc (length xs) = omega arith in
      sum_by-cons (λ y. cond (p y) 1 0) x xs
      ∙ (ap (λ (b : Bool). cond b 1 0 + count_by p xs) (All-head (λ y. p y ≡ true) x xs h)
      ∙ (ap (λ (n : ℕ). 1 + n) (count_all p xs (All-tail (λ y. p y ≡ true) x xs h)) ∙ more))

  count_none : (p : X → Bool) (xs : List X) → All (λ y. p y ≡ false) xs → count_by p xs ≡ 0
  count_none p [] h = refl
  count_none p (x ∷ xs) h =
      sum_by-cons (λ y. cond (p y) 1 0) x xs
      ∙ (ap (λ (b : Bool). cond b 1 0 + count_by p xs) (All-head (λ y. p y ≡ false) x xs h)
      ∙ (zero-add (count_by p xs) ∙ count_none p xs (All-tail (λ y. p y ≡ false) x xs h)))

  pub count_is : (xs : List X) (i : ℕ) (x : X) → i < length xs → x ≡ get_or xs i x → AllPairs (λ a b. place a < place b) xs → count_by (λ s. nat_le (place s) (place x)) xs ≡ i + 1
  count_is xs i x lt is rising =
      let p : X → Bool = λ s. nat_le (place s) (place x) in
      let front : All (λ s. p s ≡ true) (take (i + 1) xs) =
      All-weaker (λ s. place s ≤ place x) (λ s. p s ≡ true) (λ s order. grind (arith, nat_tests)) (take (i + 1) xs) (up_to xs i x lt is rising) in
      let rest : All (λ s. p s ≡ false) (drop (i + 1) xs) =
      All-weaker (λ s. place x < place s) (λ s. p s ≡ false) (λ s order. grind (arith, nat_tests)) (drop (i + 1) xs) (above xs i x lt is rising) in
      let first = count_all p (take (i + 1) xs) front in
      let last = count_none p (drop (i + 1) xs) rest in
      let size = length-take-le (i + 1) xs (omega arith) in
      let both = sum_by-take-drop (λ s. cond (p s) 1 0) xs (i + 1) in
      omega arith
