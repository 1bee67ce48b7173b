-- Lists in order, and that only one list in order has the members of another.
use native.Mathlib.Numerals.{unary_clauses}
use Rattle.std.proofs.Common.{◌≡◌, ◌+◌, ◌<◌, ℕ, zero, suc, List, [], ◌∷◌, map, Bool, true, false, cond, refl, sym, ap, ◌∙◌, arith}
use Rattle.std.proofs.lemmas.Cmp.{nat_list_cmp_total, then_total, on_total}
use Rattle.std.proofs.lemmas.List.Sorted.{ranks_by, sum_by-IsPermutation, IsPermutation-refl, IsPermutation-cons, IsPermutation-trans, IsPermutation-middle, IsPermutation-sym, IsPermutation-map}
use Rattle.std.proofs.lemmas.List.Sums.{sum_by-cons}
use Rattle.std.proofs.lemmas.Map.Text.{is_eq-slice_cmp}
use Rattle.std.proofs.lemmas.Slice.Eq.{bytes_eq-Decides}
use Rattle.std.specs.Cmp.{IsTotalOrder, IsStrictWeakOrder}
use Rattle.std.specs.Cmp.Lexicographic.{slice_cmp}
use Rattle.std.specs.List.{sum_by}
use Rattle.std.specs.List.Sorted.{IsPermutation, IsSorted, IsSortedBy}
use Rattle.std.specs.Ordering.{nat_cmp, is_lt, is_eq, ordering_then, ordering_reverse}
use Rattle.std.specs.declared.cmp.Ordering.{Ordering}
use Rattle.std.specs.declared.cmp.Ordering.TheVariants.{Less, Equal, Greater}
use Rattle.std.specs.Prelude.{bytes_eq}
use Rattle.xds_name.specs.Parameters.{key_of, parameter_cmp, put, in_order, AreInOrder}

pub total : IsTotalOrder parameter_cmp
total = then_total (on_total key_of nat_list_cmp_total) nat_list_cmp_total

abbrev pub before : List ℕ → List ℕ → Bool
before a b = is_lt (parameter_cmp a b)

pub weak : IsStrictWeakOrder before
weak = ranks_by total (λ p. p)

-- ---- each next one isn't before the one that it follows

abbrev pub Ascends : List (List ℕ) → Type 0
Ascends [] = Unit {0}
Ascends (x ∷ []) = Unit {0}
Ascends (x ∷ y ∷ ys) = (before y x ≡ false) × Ascends (y ∷ ys)

pub ascends : (xs : List (List ℕ)) → IsSorted parameter_cmp xs → Ascends xs
ascends [] h = tt
ascends (x ∷ []) h = tt
ascends (x ∷ y ∷ ys) h = (h 0 x (omega arith) (omega arith), ascends (y ∷ ys) (λ k d low high. let next = h (suc k) d (omega arith) (omega arith) in simp unary_clauses (simp unary_clauses at next)))

pub sorted : (xs : List (List ℕ)) → Ascends xs → IsSorted parameter_cmp xs
sorted [] h k d low high = absurd (omega arith)
sorted (x ∷ []) h k d low high = absurd (omega arith)
sorted (x ∷ y ∷ ys) h zero d low high = h.0
sorted (x ∷ y ∷ ys) h (suc k) d low high = let next = sorted (y ∷ ys) h.1 k d (omega arith) (omega arith) in simp unary_clauses (simp unary_clauses at next)

-- ---- what `in_order` gives

one_way : (p q : List ℕ) → before q p ≡ true → before p q ≡ false
one_way p q h = weak.one_way q p h

put_next : (t : Bool) (p q r : List ℕ) (rs : List (List ℕ)) → before r p ≡ t → before q p ≡ true → Ascends (q ∷ r ∷ rs) → (t ≡ true → Ascends (r ∷ put p rs))
    → Ascends (q ∷ cond t (r ∷ put p rs) (p ∷ r ∷ rs))
put_next true p q r rs is low h more = (h.0, more refl)
put_next false p q r rs is low h more = (one_way p q low, (is, h.1))

put_after : (p q : List ℕ) (qs : List (List ℕ)) → before q p ≡ true → Ascends (q ∷ qs) → Ascends (q ∷ put p qs)
put_after p q [] low h = (one_way p q low, tt)
put_after p q (r ∷ rs) low h = put_next (before r p) p q r rs refl low h (λ e. put_after p r rs e h.1)

put_first : (t : Bool) (p q : List ℕ) (qs : List (List ℕ)) → before q p ≡ t → Ascends (q ∷ qs) → Ascends (cond t (q ∷ put p qs) (p ∷ q ∷ qs))
put_first true p q qs is h = put_after p q qs is h
put_first false p q qs is h = (is, h)

put_ascends : (p : List ℕ) (qs : List (List ℕ)) → Ascends qs → Ascends (put p qs)
put_ascends p [] h = tt
put_ascends p (q ∷ qs) h = put_first (before q p) p q qs refl h

pub in_order_ascends : (ps : List (List ℕ)) → Ascends (in_order ps)
in_order_ascends [] = tt
in_order_ascends (p ∷ ps) = put_ascends p (in_order ps) (in_order_ascends ps)

-- ---- none is dropped

put_keeps : (t : Bool) (p q : List ℕ) (qs : List (List ℕ)) → IsPermutation (p ∷ qs) (put p qs) → IsPermutation (p ∷ q ∷ qs) (cond t (q ∷ put p qs) (p ∷ q ∷ qs))
put_keeps true p q qs h =
    IsPermutation-trans (p ∷ q ∷ qs) (q ∷ p ∷ qs) (q ∷ put p qs)
    (IsPermutation-sym (q ∷ p ∷ qs) (p ∷ q ∷ qs) (IsPermutation-middle (q ∷ []) p qs))
    (IsPermutation-cons q (p ∷ qs) (put p qs) h)
put_keeps false p q qs h = IsPermutation-refl (p ∷ q ∷ qs)

put_same : (p : List ℕ) (qs : List (List ℕ)) → IsPermutation (p ∷ qs) (put p qs)
put_same p [] = IsPermutation-refl (p ∷ [])
put_same p (q ∷ qs) = put_keeps (before q p) p q qs (put_same p qs)

pub in_order_same : (ps : List (List ℕ)) → IsPermutation ps (in_order ps)
in_order_same [] = IsPermutation-refl []
in_order_same (p ∷ ps) =
    IsPermutation-trans (p ∷ ps) (p ∷ in_order ps) (put p (in_order ps)) (IsPermutation-cons p ps (in_order ps) (in_order_same ps)) (put_same p (in_order ps))

-- ---- a list in order is known by how often each member stands in it

abbrev count : List ℕ → List (List ℕ) → ℕ
count v xs = sum_by (λ x. cond (bytes_eq x v) 1 0) xs

count_cons : (v x : List ℕ) (xs : List (List ℕ)) → count v (x ∷ xs) ≡ cond (bytes_eq x v) 1 0 + count v xs
count_cons v x xs = sum_by-cons (λ y. cond (bytes_eq y v) 1 0) x xs

itself : (x : List ℕ) → bytes_eq x x ≡ true
itself x = (bytes_eq-Decides x x).1 refl

count_itself : (x : List ℕ) (xs : List (List ℕ)) → 0 < count x (x ∷ xs)
count_itself x xs = let is = count_cons x x xs ∙ ap (λ t. cond t 1 0 + count x xs) (itself x) in omega arith

not_itself : (t : Bool) (x : List ℕ) → before x x ≡ t → before x x ≡ false
not_itself true x is = one_way x x is
not_itself false x is = is

lower_at : (t : Bool) (x y : List ℕ) (n : ℕ) → bytes_eq y x ≡ t → (0 < n → before x y ≡ false) → 0 < cond t 1 0 + n → before x y ≡ false
lower_at true x y n is more some = rw ((bytes_eq-Decides y x).0 is) (not_itself (before x x) x refl)
lower_at false x y n is more some = more (omega arith)

-- the first of a list in order isn't after a member
lower : (x y : List ℕ) (ys : List (List ℕ)) → Ascends (y ∷ ys) → 0 < count x (y ∷ ys) → before x y ≡ false
lower x y [] h some = lower_at (bytes_eq y x) x y 0 refl (λ s. absurd (omega arith)) (let is = count_cons x y [] in omega arith)
lower x y (z ∷ zs) h some =
    lower_at (bytes_eq y x) x y (count x (z ∷ zs)) refl (λ s. weak.chain x z y (lower x z zs h.1 s) h.0) (let is = count_cons x y (z ∷ zs) in omega arith)

tie : (k o : Ordering) (x y : List ℕ) → o ≡ slice_cmp nat_cmp x y → ordering_then k o ≡ Equal → x ≡ y
tie Less o x y is e = absurd (let less = ap is_lt e in cc)
tie Equal o x y is e = (bytes_eq-Decides x y).0 (sym (is_eq-slice_cmp x y) ∙ ap is_eq (sym is ∙ e))
tie Greater o x y is e = absurd (let equal = ap is_eq e in cc)

tied : (o p : Ordering) (x y : List ℕ) → o ≡ parameter_cmp x y → p ≡ parameter_cmp y x → is_lt o ≡ false → is_lt p ≡ false → x ≡ y
tied Less p x y is back up down = absurd (cc)
tied Equal p x y is back up down = tie (slice_cmp nat_cmp (key_of x) (key_of y)) (slice_cmp nat_cmp x y) x y refl (sym is)
tied Greater p x y is back up down = absurd (let less = back ∙ total.antisymm y x ∙ ap ordering_reverse (sym is) in let same = ap is_lt less in cc)

rest_of : (x : List ℕ) (xs : List (List ℕ)) → Ascends (x ∷ xs) → Ascends xs
rest_of x [] h = tt
rest_of x (y ∷ ys) h = h.1

firsts : (x y : List ℕ) (xs ys : List (List ℕ)) → Ascends (x ∷ xs) → Ascends (y ∷ ys) → ((v : List ℕ) → count v (x ∷ xs) ≡ count v (y ∷ ys)) → x ≡ y
firsts x y xs ys hx hy same =
    tied (parameter_cmp x y) (parameter_cmp y x) x y refl refl
    (lower x y ys hy (let is = same x in let one = count_itself x xs in omega arith))
    (lower y x xs hx (let is = same y in let one = count_itself y ys in omega arith))

cancelled : (a b m n p q : ℕ) → p ≡ a + m → q ≡ b + n → p ≡ q → a ≡ b → m ≡ n
cancelled a b m n p q hp hq same e = omega arith

rests : (x y : List ℕ) (xs ys : List (List ℕ)) → x ≡ y → ((v : List ℕ) → count v (x ∷ xs) ≡ count v (y ∷ ys)) → (v : List ℕ) → count v xs ≡ count v ys
rests x y xs ys e same v =
    cancelled (cond (bytes_eq x v) 1 0) (cond (bytes_eq y v) 1 0) (count v xs) (count v ys) (count v (x ∷ xs)) (count v (y ∷ ys))
    (count_cons v x xs) (count_cons v y ys) (same v) (ap (λ z. cond (bytes_eq z v) 1 0) e)

only_one : (xs ys : List (List ℕ)) → Ascends xs → Ascends ys → ((v : List ℕ) → count v xs ≡ count v ys) → xs ≡ ys
only_one [] [] hx hy same = refl
only_one [] (y ∷ ys) hx hy same = absurd (let is = same y in let one = count_itself y ys in omega arith)
only_one (x ∷ xs) [] hx hy same = absurd (let is = same x in let one = count_itself x xs in omega arith)
only_one (x ∷ xs) (y ∷ ys) hx hy same =
    let first = firsts x y xs ys hx hy same in
    let rest = only_one xs ys (rest_of x xs hx) (rest_of y ys hy) (rests x y xs ys first same) in
    ap (λ z. z ∷ xs) first ∙ ap (λ zs. y ∷ zs) rest

-- the members of one list, in order, are those that `in_order` gives
pub in_order_only : (ps qs : List (List ℕ)) → IsPermutation ps qs → Ascends qs → qs ≡ in_order ps
in_order_only ps qs same up =
    only_one qs (in_order ps) up (in_order_ascends ps)
    (λ v. sum_by-IsPermutation (λ x. cond (bytes_eq x v) 1 0) ps qs same ∙ sym (sum_by-IsPermutation (λ x. cond (bytes_eq x v) 1 0) ps (in_order ps) (in_order_same ps)))

pub are_in_order : (ps : List (List ℕ)) → AreInOrder ps
are_in_order ps = record {
  same = in_order_same ps;
  sorted = sorted (in_order ps) (in_order_ascends ps);
  only = λ qs same up. in_order_only ps qs same (ascends qs up);
}

-- ---- the same of what is lent

ascends_shown : {X : Type 0} (f : X → List ℕ) (xs : List X) → IsSortedBy (λ x y. before (f x) (f y)) xs → Ascends (map f xs)
ascends_shown f [] h = tt
ascends_shown f (x ∷ []) h = tt
ascends_shown f (x ∷ y ∷ ys) h = (h 0 x (omega arith) (omega arith), ascends_shown f (y ∷ ys) (λ k d low high. let next = h (suc k) d (omega arith) (omega arith) in simp unary_clauses (simp unary_clauses at next)))

pub in_order_shown : {X : Type 0} (f : X → List ℕ) (xs ys : List X) → IsPermutation xs ys → IsSortedBy (λ x y. before (f x) (f y)) ys → map f ys ≡ in_order (map f xs)
in_order_shown f xs ys same up = in_order_only (map f xs) (map f ys) (IsPermutation-map f xs ys same) (ascends_shown f ys up)

pub weak_shown : {X : Type 0} (f : X → List ℕ) → IsStrictWeakOrder (λ (x y : X). before (f x) (f y))
weak_shown f = ranks_by total f
