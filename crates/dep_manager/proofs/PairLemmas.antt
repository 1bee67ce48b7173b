-- Lists that are gone over together.
use Rattle.std.proofs.Common.{◌≡◌, ◌⊎◌, inl, inr, ℕ, zero, suc, ◌+◌, ◌<◌, ◌≤◌, refl, sym, ap, ap₂, ◌∙◌, arith, List, [], ◌∷◌, ◌++◌, length, min, get_or, take, drop, append-nil, append_assoc}
use Rattle.std.proofs.lemmas.List.{drop_more, length-drop, length-take}
use Rattle.dep_manager.specs.RenewedConfigs.{paired}

no_more : {X Y : Type 0} (f : X → Y → X) (xs : List X) (ys : List Y) → length ys ≡ 0 → paired f xs ys ≡ []
no_more f xs [] none = refl
no_more f xs (y ∷ ys) none = absurd (omega (arith, none))

pub none_left : {X Y : Type 0} (f : X → Y → X) (ys : List Y) → paired f [] ys ≡ []
none_left f [] = refl
none_left f (y ∷ ys) = refl

-- the end of the one list
pub ended : {X Y : Type 0} (f : X → Y → X) (xs list all : List X) (ys : List Y) → length ys ≡ 0 → list ++ paired f xs ys ≡ all → list ≡ all
ended f xs list all ys none kept = sym (append-nil list) ∙ ap (λ zs. list ++ zs) (sym (no_more f xs ys none)) ∙ kept

past : {X : Type 0} (xs : List X) (i : ℕ) → length xs ≤ i → drop i xs ≡ []
past [] zero within = refl
past [] (suc i) within = refl
past (x ∷ xs) zero within = absurd (omega (arith, within))
past (x ∷ xs) (suc i) within = past xs i (omega (arith, within))

-- the end of the other
pub all_done : {X Y : Type 0} (f : X → Y → X) (xs list all : List X) (i : ℕ) (ys : List Y) → length xs ≤ i → list ++ paired f (drop i xs) ys ≡ all → list ≡ all
all_done f xs list all i ys within kept = sym (append-nil list) ∙ ap (λ zs. list ++ zs) (sym (ap (λ zs. paired f zs ys) (past xs i within) ∙ none_left f ys)) ∙ kept

-- one more
pub pair_next : {X Y : Type 0} (f : X → Y → X) (list new all items : List X) (i : ℕ) (item x : X) (y : Y) (left rest : List Y) →
    i < length items → item ≡ get_or items i item → left ≡ y ∷ rest → x ≡ f item y → new ≡ list ++ x ∷ [] → list ++ paired f (drop i items) left ≡ all → new ++ paired f (drop (i + 1) items) rest ≡ all
pair_next f list new all items i item x y left rest lt is split made grown kept =
    ap (λ l. l ++ paired f (drop (i + 1) items) rest) grown
    ∙ append_assoc list (x ∷ []) (paired f (drop (i + 1) items) rest)
    ∙ ap (λ z. list ++ z ∷ paired f (drop (i + 1) items) rest) (made ∙ ap (λ z. f z y) is)
    ∙ ap₂ (λ zs ys. list ++ paired f zs ys) (sym (drop_more items i item lt)) (sym split)
    ∙ kept

-- ---- parts

pub paired_long : {X Y : Type 0} (f : X → Y → X) (xs : List X) (ys : List Y) → length (paired f xs ys) ≡ min (length xs) (length ys)
paired_long f [] [] = refl
paired_long f [] (y ∷ ys) = let none : 0 ≡ min 0 (suc (length ys)) = omega arith in none
paired_long f (x ∷ xs) [] = let none : 0 ≡ min (suc (length xs)) 0 = omega arith in none
paired_long f (x ∷ xs) (y ∷ ys) = let long = paired_long f xs ys in omega (arith, long)

pub paired_at : {X Y : Type 0} (f : X → Y → X) (xs : List X) (ys : List Y) (i : ℕ) (e d : X) (c : Y) → i < length xs → i < length ys → get_or (paired f xs ys) i e ≡ f (get_or xs i d) (get_or ys i c)
paired_at f [] ys i e d c lt also = absurd (omega (arith, lt))
paired_at f (x ∷ xs) [] i e d c lt also = absurd (omega (arith, also))
paired_at f (x ∷ xs) (y ∷ ys) zero e d c lt also = refl
paired_at f (x ∷ xs) (y ∷ ys) (suc i) e d c lt also = paired_at f xs ys i e d c (omega (arith, lt)) (omega (arith, also))

no_first : {X Y : Type 0} (f : X → Y → X) (xs : List X) (ys : List Y) → length xs ≡ 0 → paired f xs ys ≡ []
no_first f [] ys none = none_left f ys
no_first f (x ∷ xs) ys none = absurd (omega (arith, none))

-- parts of lists of which one has nothing
parts_of_none : {X Y : Type 0} (f : X → Y → X) (xs : List X) (ys : List Y) (n m : ℕ) → (length xs ≡ 0) ⊎ (length ys ≡ 0) →
    paired f (take (n + m) xs) (take (n + m) ys) ≡ paired f (take n xs) (take n ys) ++ paired f (take m (drop n xs)) (take m (drop n ys))
parts_of_none f xs ys n m (inl none) =
    let whole = length-take (n + m) xs in
    let front = length-take n xs in
    let back = length-take m (drop n xs) in
    let left = length-drop n xs in
    no_first f (take (n + m) xs) (take (n + m) ys) (omega (arith, none, whole))
    ∙ sym (ap₂ (λ ps qs. ps ++ qs) (no_first f (take n xs) (take n ys) (omega (arith, none, front))) (no_first f (take m (drop n xs)) (take m (drop n ys)) (omega (arith, none, back, left))))
parts_of_none f xs ys n m (inr none) =
    let whole = length-take (n + m) ys in
    let front = length-take n ys in
    let back = length-take m (drop n ys) in
    let left = length-drop n ys in
    no_more f (take (n + m) xs) (take (n + m) ys) (omega (arith, none, whole))
    ∙ sym (ap₂ (λ ps qs. ps ++ qs) (no_more f (take n xs) (take n ys) (omega (arith, none, front))) (no_more f (take m (drop n xs)) (take m (drop n ys)) (omega (arith, none, back, left))))

-- a part, and the part behind it
pub paired_more : {X Y : Type 0} (f : X → Y → X) (xs : List X) (ys : List Y) (n m : ℕ) → paired f (take (n + m) xs) (take (n + m) ys) ≡ paired f (take n xs) (take n ys) ++ paired f (take m (drop n xs)) (take m (drop n ys))
paired_more f xs ys zero m = ap (λ k. paired f (take k xs) (take k ys)) (let same : 0 + m ≡ m = omega arith in same)
paired_more f [] ys (suc n) m = parts_of_none f [] ys (suc n) m (inl refl)
paired_more f (x ∷ xs) [] (suc n) m = parts_of_none f (x ∷ xs) [] (suc n) m (inr refl)
paired_more f (x ∷ xs) (y ∷ ys) (suc n) m =
    ap (λ k. paired f (take k (x ∷ xs)) (take k (y ∷ ys))) (let more : suc n + m ≡ suc (n + m) = omega arith in more)
    ∙ ap (λ zs. f x y ∷ zs) (paired_more f xs ys n m)

all_of_none : {X Y : Type 0} (f : X → Y → X) (xs : List X) (ys : List Y) (n : ℕ) → (length xs ≡ 0) ⊎ (length ys ≡ 0) → paired f (take n xs) (take n ys) ≡ paired f xs ys
all_of_none f xs ys n (inl none) = let front = length-take n xs in no_first f (take n xs) (take n ys) (omega (arith, none, front)) ∙ sym (no_first f xs ys none)
all_of_none f xs ys n (inr none) = let front = length-take n ys in no_more f (take n xs) (take n ys) (omega (arith, none, front)) ∙ sym (no_more f xs ys none)

-- a part that has the whole of either list
pub paired_all : {X Y : Type 0} (f : X → Y → X) (xs : List X) (ys : List Y) (n : ℕ) → min (length xs) (length ys) ≤ n → paired f (take n xs) (take n ys) ≡ paired f xs ys
paired_all f [] ys n le = all_of_none f [] ys n (inl refl)
paired_all f (x ∷ xs) [] n le = all_of_none f (x ∷ xs) [] n (inr refl)
paired_all f (x ∷ xs) (y ∷ ys) zero le = absurd (omega (arith, le))
paired_all f (x ∷ xs) (y ∷ ys) (suc n) le = ap (λ zs. f x y ∷ zs) (paired_all f xs ys n (omega (arith, le)))

-- one more
pub paired_next : {X Y : Type 0} (f : X → Y → X) (list new xs : List X) (ys : List Y) (n : ℕ) (x : X) (y : Y) (z : X) → n < length xs → n < length ys → x ≡ get_or xs n x → y ≡ get_or ys n y → z ≡ f x y → new ≡ list ++ z ∷ [] →
    list ≡ paired f (take n xs) (take n ys) → new ≡ paired f (take (n + 1) xs) (take (n + 1) ys)
paired_next f list new xs ys n x y z lt also is same made grown kept =
    grown ∙ ap₂ (λ ps q. ps ++ q ∷ []) kept (made ∙ ap₂ f is same)
    ∙ ap₂ (λ ps qs. paired f (take n xs) (take n ys) ++ paired f (take 1 ps) (take 1 qs)) (sym (drop_more xs n x lt)) (sym (drop_more ys n y also))
    ∙ sym (paired_more f xs ys n 1)
