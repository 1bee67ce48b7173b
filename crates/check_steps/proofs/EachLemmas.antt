-- Loops that take the steps of each of a list, or of those that pass a test.
use Rattle.std.proofs.Common.{◌≡◌, ℕ, suc, ◌<◌, ◌≤◌, ◌+◌, List, [], ◌∷◌, ◌++◌, length, get_or, drop, Bool, true, false, cond, refl, sym, ap, ◌∙◌, append_assoc, append-nil, drop-cons, drop_of_length-le, add-one}
use Rattle.std.specs.Prelude.{filter, Result, Ok, Err}
use Rattle.check_steps.specs.declared.check_fault.Stop.{Stop}
use Rattle.check_steps.specs.declared.check_fault.Fault.{Fault}
use Rattle.check_steps.specs.declared.check_fault.Fault.TheVariants.{Stopped, Memory}
use Rattle.check_steps.specs.TableSteps.{◌>>=◌, each, Tells}

-- what is done, and after it what the steps of the rest give
abbrev pub joined : {A : Type 0} → List A → Result (List A) Stop → Result (List A) Stop
joined done rest = rest >>= λ ys. Ok (done ++ ys)

one_more : {A : Type 0} (done : List A) (y : A) (rest : Result (List A) Stop) → joined done (rest >>= λ ys. Ok (y ∷ ys)) ≡ joined (done ++ y ∷ []) rest
one_more done y (Ok ys) = ap (λ zs. Ok zs) (sym (append_assoc done (y ∷ []) ys))
one_more done y (Err stop) = refl

at_first : {X A : Type 0} (f : X → Result A Stop) (done : List A) (x : X) (xs : List X) (y : A) → f x ≡ Ok y → joined done (each f (x ∷ xs)) ≡ joined (done ++ y ∷ []) (each f xs)
unfolding each
at_first f done x xs y is = rw is (one_more done y (each f xs))

stops_at_first : {X A : Type 0} (f : X → Result A Stop) (done : List A) (x : X) (xs : List X) (stop : Stop) → f x ≡ Err stop → joined done (each f (x ∷ xs)) ≡ Err stop
unfolding each
stops_at_first f done x xs stop is = rw is refl

nothing_more : {X A : Type 0} (f : X → Result A Stop) (done : List A) → joined done (each f []) ≡ Ok done
unfolding each
nothing_more f done = ap (λ zs. Ok zs) (append-nil done)

-- ---- all of a list

rest_at : {X : Type 0} (xs : List X) (i : ℕ) (x : X) → i < length xs → x ≡ get_or xs i x → drop i xs ≡ x ∷ drop (i + 1) xs
rest_at xs i x lt is = rw add-one (drop-cons xs i x lt ∙ ap (λ y. y ∷ drop (suc i) xs) (sym is))

pub each_more : {X A : Type 0} (f : X → Result A Stop) (xs : List X) (i : ℕ) (x : X) (done new : List A) (y : A) {whole : Result (List A) Stop}
    → i < length xs → x ≡ get_or xs i x → f x ≡ Ok y → new ≡ done ++ y ∷ [] → joined done (each f (drop i xs)) ≡ whole → joined new (each f (drop (i + 1) xs)) ≡ whole
each_more f xs i x done new y lt is step pushed so_far =
    ap (λ zs. joined zs (each f (drop (i + 1) xs))) pushed
    ∙ sym (at_first f done x (drop (i + 1) xs) y step)
    ∙ ap (λ zs. joined done (each f zs)) (sym (rest_at xs i x lt is))
    ∙ so_far

pub each_stops : {X A : Type 0} (f : X → Result A Stop) (xs : List X) (i : ℕ) (x : X) (done : List A) (fault : Fault) {whole : Result (List A) Stop}
    → i < length xs → x ≡ get_or xs i x → Tells {A = A} (Err fault) (f x) → joined done (each f (drop i xs)) ≡ whole → Tells {A = List A} (Err fault) whole
each_stops f xs i x done (Stopped stop) lt is step so_far =
    sym so_far ∙ ap (λ zs. joined done (each f zs)) (rest_at xs i x lt is) ∙ stops_at_first f done x (drop (i + 1) xs) stop step
each_stops f xs i x done Memory lt is step so_far = tt

pub each_ends : {X A : Type 0} (f : X → Result A Stop) (xs : List X) (i : ℕ) (done : List A) {whole : Result (List A) Stop}
    → length xs ≤ i → joined done (each f (drop i xs)) ≡ whole → whole ≡ Ok done
each_ends f xs i done all so_far = sym so_far ∙ ap (λ zs. joined done (each f zs)) (drop_of_length-le xs all) ∙ nothing_more f done

-- ---- those of a list that pass a test

taken_at : {X : Type 0} (test : X → Bool) (xs : List X) (i : ℕ) (x : X) → i < length xs → x ≡ get_or xs i x → test x ≡ true → filter test (drop i xs) ≡ x ∷ filter test (drop (i + 1) xs)
taken_at test xs i x lt is passes =
    ap (filter test) (rest_at xs i x lt is) ∙ ap (λ b. cond b (x ∷ filter test (drop (i + 1) xs)) (filter test (drop (i + 1) xs))) passes

left_at : {X : Type 0} (test : X → Bool) (xs : List X) (i : ℕ) (x : X) → i < length xs → x ≡ get_or xs i x → test x ≡ false → filter test (drop i xs) ≡ filter test (drop (i + 1) xs)
left_at test xs i x lt is fails =
    ap (filter test) (rest_at xs i x lt is) ∙ ap (λ b. cond b (x ∷ filter test (drop (i + 1) xs)) (filter test (drop (i + 1) xs))) fails

pub taken_more : {X A : Type 0} (f : X → Result A Stop) (test : X → Bool) (xs : List X) (i : ℕ) (x : X) (done new : List A) (y : A) {whole : Result (List A) Stop}
    → i < length xs → x ≡ get_or xs i x → test x ≡ true → f x ≡ Ok y → new ≡ done ++ y ∷ []
    → joined done (each f (filter test (drop i xs))) ≡ whole → joined new (each f (filter test (drop (i + 1) xs))) ≡ whole
taken_more f test xs i x done new y lt is passes step pushed so_far =
    ap (λ zs. joined zs (each f (filter test (drop (i + 1) xs)))) pushed
    ∙ sym (at_first f done x (filter test (drop (i + 1) xs)) y step)
    ∙ ap (λ zs. joined done (each f zs)) (sym (taken_at test xs i x lt is passes))
    ∙ so_far

pub left_more : {X A : Type 0} (f : X → Result A Stop) (test : X → Bool) (xs : List X) (i : ℕ) (x : X) (done : List A) {whole : Result (List A) Stop}
    → i < length xs → x ≡ get_or xs i x → test x ≡ false
    → joined done (each f (filter test (drop i xs))) ≡ whole → joined done (each f (filter test (drop (i + 1) xs))) ≡ whole
left_more f test xs i x done lt is fails so_far = ap (λ zs. joined done (each f zs)) (sym (left_at test xs i x lt is fails)) ∙ so_far

pub taken_stops : {X A : Type 0} (f : X → Result A Stop) (test : X → Bool) (xs : List X) (i : ℕ) (x : X) (done : List A) (fault : Fault) {whole : Result (List A) Stop}
    → i < length xs → x ≡ get_or xs i x → test x ≡ true → Tells {A = A} (Err fault) (f x)
    → joined done (each f (filter test (drop i xs))) ≡ whole → Tells {A = List A} (Err fault) whole
taken_stops f test xs i x done (Stopped stop) lt is passes step so_far =
    sym so_far ∙ ap (λ zs. joined done (each f zs)) (taken_at test xs i x lt is passes) ∙ stops_at_first f done x (filter test (drop (i + 1) xs)) stop step
taken_stops f test xs i x done Memory lt is passes step so_far = tt

pub taken_ends : {X A : Type 0} (f : X → Result A Stop) (test : X → Bool) (xs : List X) (i : ℕ) (done : List A) {whole : Result (List A) Stop}
    → length xs ≤ i → joined done (each f (filter test (drop i xs))) ≡ whole → whole ≡ Ok done
taken_ends f test xs i done all so_far = sym so_far ∙ ap (λ zs. joined done (each f (filter test zs))) (drop_of_length-le xs all) ∙ nothing_more f done

-- ---- how many there are

count_at : {A : Type 0} (first : Result A Stop) (rest : Result (List A) Stop) (n : ℕ) (ys : List A) → ((zs : List A) → rest ≡ Ok zs → length zs ≡ n)
    → (first >>= λ y. rest >>= λ zs. Ok (y ∷ zs)) ≡ Ok ys → length ys ≡ suc n
count_at (Ok y) (Ok zs) n ys more is = let e : y ∷ zs ≡ ys = cc in sym (ap (λ xs. length xs) e) ∙ ap (λ k. suc k) (more zs refl)
count_at (Ok y) (Err stop) n ys more is = absurd (cc)
count_at (Err stop) rest n ys more is = absurd (cc)

pub each_count : {X A : Type 0} (f : X → Result A Stop) (xs : List X) (ys : List A) → each f xs ≡ Ok ys → length ys ≡ length xs
unfolding each
each_count f [] ys is = let e : [] ≡ ys = cc in sym (ap (λ zs. length zs) e)
each_count f (x ∷ xs) ys is = count_at (f x) (each f xs) (length xs) ys (λ zs e. each_count f xs zs e) is

pub each_none : {X A : Type 0} (f : X → Result A Stop) (none : List A) → none ≡ [] → each f [] ≡ Ok none
unfolding each
each_none f none is = ap (λ ys. Ok ys) (sym is)
