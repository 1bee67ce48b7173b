-- The ends of chains, with the places that lead to them: they lead there, all are listed, and they ascend.
use Rattle.std.proofs.Common.{◌≡◌, ◌⊎◌, inl, inr, ℕ, zero, suc, ◌+◌, ◌<◌, List, [], ◌∷◌, ◌++◌, refl, sym, ◌∙◌, ap, subst, arith, length, Option, Some, None, map, add-zero}
use Rattle.std.specs.Prelude.{slice_get, option_and_then}
use Rattle.std.specs.List.{flat_map}
use Rattle.std.specs.declared.cmp.Ordering.TheVariants.{Less}
use Rattle.std.specs.Ordering.{nat_cmp, ordering_then}
use Rattle.std.specs.Cmp.Lexicographic.{slice_cmp}
use Rattle.std.specs.Cmp.{nat_cmp_is}
use Rattle.std.proofs.lemmas.Cmp.{tied_itself, nat_cmp_total}
use Rattle.std.proofs.lemmas.List.{map-append}
use Rattle.aggregate_expand.specs.LookedUp.{Name}
use Rattle.aggregate_expand.specs.Chains.{Table, led_to, LeadsTo, IsBefore}
use Rattle.aggregate_expand.specs.Leaves.{ends, or_children}

-- ---- members

abbrev pub In : {A : Type 0} → A → List A → Type 0
In e [] = ⊥
In e (x ∷ xs) = (x ≡ e) ⊎ In e xs

pub in_left : {A : Type 0} (e : A) (xs ys : List A) → In e xs → In e (xs ++ ys)
in_left e [] ys h = absurd h
in_left e (x ∷ xs) ys (inl h) = inl h
in_left e (x ∷ xs) ys (inr h) = inr (in_left e xs ys h)

pub in_right : {A : Type 0} (e : A) (xs ys : List A) → In e ys → In e (xs ++ ys)
in_right e [] ys h = h
in_right e (x ∷ xs) ys h = inr (in_right e xs ys h)

pub in_append : {A : Type 0} (e : A) (xs ys : List A) → In e (xs ++ ys) → In e xs ⊎ In e ys
in_append e [] ys h = inr h
in_append e (x ∷ xs) ys (inl h) = inl (inl h)
in_append e (x ∷ xs) ys (inr h) = elim (in_append e xs ys h) [ inl w ↦ inl (inr w) | inr w ↦ inr w ]

pub in_map : {A B : Type 0} (f : A → B) (e : B) (xs : List A) → In e (map f xs) → (s : A) × In s xs × (f s ≡ e)
in_map f e [] h = absurd h
in_map f e (x ∷ xs) (inl h) = (x, inl refl, h)
in_map f e (x ∷ xs) (inr h) = let (s, i, w) = in_map f e xs h in (s, inr i, w)

map_in : {A B : Type 0} (f : A → B) (s : A) (xs : List A) → In s xs → In (f s) (map f xs)
map_in f s [] h = absurd h
map_in f s (x ∷ xs) (inl h) = inl (ap f h)
map_in f s (x ∷ xs) (inr h) = inr (map_in f s xs h)

-- ---- ends with their places

abbrev pub Placed : Type 0
Placed = List ℕ × Name

abbrev pub second : Placed → Name
second e = e.1

abbrev pub under : ℕ → Placed → Placed
under i e = (i ∷ e.0, e.1)

abbrev pub placed_from : ℕ → (Name → List Placed) → List Name → List Placed
placed_from i f [] = []
placed_from i f (x ∷ xs) = map (under i) (f x) ++ placed_from (suc i) f xs

abbrev pub or_placed : Name → (Name → List Placed) → Option (List Name) → List Placed
or_placed cluster f None = ([], cluster) ∷ []
or_placed cluster f (Some children) = placed_from 0 f children

abbrev pub placed : Table → ℕ → Name → List Placed
placed table zero cluster = []
placed table (suc n) cluster = or_placed cluster (placed table n) (table cluster)

-- the names are the ends
names_under : (i : ℕ) (es : List Placed) → map second (map (under i) es) ≡ map second es
names_under i [] = refl
names_under i (e ∷ es) = ap (λ xs. e.1 ∷ xs) (names_under i es)

names_from : (i : ℕ) (f : Name → List Placed) (g : Name → List Name) → ((x : Name) → map second (f x) ≡ g x) → (xs : List Name) → map second (placed_from i f xs) ≡ flat_map g xs
names_from i f g is [] = refl
names_from i f g is (x ∷ xs) =
    map-append second (map (under i) (f x)) (placed_from (suc i) f xs)
    ∙ ap (λ ys. ys ++ map second (placed_from (suc i) f xs)) (names_under i (f x) ∙ is x)
    ∙ ap (λ ys. g x ++ ys) (names_from (suc i) f g is xs)

names_or : (cluster : Name) (f : Name → List Placed) (g : Name → List Name) → ((x : Name) → map second (f x) ≡ g x) → (o : Option (List Name)) → map second (or_placed cluster f o) ≡ or_children cluster g o
names_or cluster f g is None = refl
names_or cluster f g is (Some children) = names_from 0 f g is children

pub names : (table : Table) (n : ℕ) (cluster : Name) → map second (placed table n cluster) ≡ ends table n cluster
unfolding ends
names table zero cluster = refl
names table (suc n) cluster = names_or cluster (placed table n) (ends table n) (names table n) (table cluster)

-- each leads there
pub from_children : (i : ℕ) (f : Name → List Placed) (xs : List Name) (e : Placed) → In e (placed_from i f xs) → (k : ℕ) × (x : Name) × (s : Placed) × (slice_get xs k ≡ Some x) × In s (f x) × (under (i + k) s ≡ e)
from_children i f [] e h = absurd h
from_children i f (x ∷ xs) e h = elim (in_append e (map (under i) (f x)) (placed_from (suc i) f xs) h) [ inl w ↦ here w | inr w ↦ there (from_children (suc i) f xs e w) ]
  where
    here : In e (map (under i) (f x)) → (k : ℕ) × (y : Name) × (s : Placed) × (slice_get (x ∷ xs) k ≡ Some y) × In s (f y) × (under (i + k) s ≡ e)
    here w = let (s, m, is) = in_map (under i) e (f x) w in (0, x, s, refl, m, ap (λ j. under j s) (add-zero i) ∙ is)

    there : (k : ℕ) × (y : Name) × (s : Placed) × (slice_get xs k ≡ Some y) × In s (f y) × (under (suc i + k) s ≡ e) → (k : ℕ) × (y : Name) × (s : Placed) × (slice_get (x ∷ xs) k ≡ Some y) × In s (f y) × (under (i + k) s ≡ e)
    there (k, y, s, at, m, is) = let j : i + suc k ≡ suc i + k = omega arith in (suc k, y, s, at, m, ap (λ l. under l s) j ∙ is)

to_children : (i : ℕ) (f : Name → List Placed) (xs : List Name) (k : ℕ) (x : Name) (s : Placed) → slice_get xs k ≡ Some x → In s (f x) → In (under (i + k) s) (placed_from i f xs)
to_children i f [] k x s at m = cc
to_children i f (y ∷ xs) zero x s at m =
    let e : y ≡ x = cc in
    in_left (under (i + 0) s) (map (under i) (f y)) (placed_from (suc i) f xs)
    (subst (λ j. In (under j s) (map (under i) (f y))) (sym (add-zero i)) (map_in (under i) s (f y) (subst (λ z. In s (f z)) (sym e) m)))
to_children i f (y ∷ xs) (suc k) x s at m =
    let j : suc i + k ≡ i + suc k = omega arith in
    in_right (under (i + suc k) s) (map (under i) (f y)) (placed_from (suc i) f xs)
    (subst (λ l. In (under l s) (placed_from (suc i) f xs)) j (to_children (suc i) f xs k x s at m))

leads_or : (table : Table) (cluster : Name) (f : Name → List Placed) → ((x : Name) (s : Placed) → In s (f x) → LeadsTo table x s.0 s.1) → (o : Option (List Name)) → table cluster ≡ o → (e : Placed) → In e (or_placed cluster f o) → LeadsTo table cluster e.0 e.1
leads_or table cluster f each None is e (inl h) = subst (λ s. LeadsTo table cluster s.0 s.1) h (refl, is)
leads_or table cluster f each None is e (inr h) = absurd h
leads_or table cluster f each (Some children) is e h =
    let (k, x, s, at, m, w) = from_children 0 f children e h in
    let l = each x s m in
    let j : 0 + k ≡ k = omega arith in
    subst (λ d. LeadsTo table cluster d.0 d.1) w
    (subst (λ i. LeadsTo table cluster (i ∷ s.0) s.1) (sym j)
    (ap (λ o. option_and_then (led_to table s.0) (option_and_then (λ ds. slice_get ds k) o)) is ∙ ap (option_and_then (led_to table s.0)) at ∙ l.0, l.1))

pub leads : (table : Table) (n : ℕ) (cluster : Name) (e : Placed) → In e (placed table n cluster) → LeadsTo table cluster e.0 e.1
leads table zero cluster e h = absurd h
leads table (suc n) cluster e h = leads_or table cluster (placed table n) (leads table n) (table cluster) refl e h

-- each that leads there is listed
here_or : (table : Table) (cluster x : Name) (f : Name → List Placed) (o : Option (List Name)) → table cluster ≡ o → cluster ≡ x → table x ≡ None → In ([], x) (or_placed cluster f o)
here_or table cluster x f None is same leaf = inl (ap (λ y. ([], y)) same)
here_or table cluster x f (Some children) is same leaf = let w : Some children ≡ None = sym is ∙ ap table same ∙ leaf in cc

there_at : (table : Table) (x : Name) (path : List ℕ) (i : ℕ) (f : Name → List Placed) (children : List Name) (o : Option Name) → slice_get children i ≡ o → ((d : Name) → led_to table path d ≡ Some x → In (path, x) (f d)) → option_and_then (led_to table path) o ≡ Some x → In (i ∷ path, x) (placed_from 0 f children)
there_at table x path i f children None at each led = cc
there_at table x path i f children (Some d) at each led =
    let j : 0 + i ≡ i = omega arith in
    subst (λ k. In (k ∷ path, x) (placed_from 0 f children)) j (to_children 0 f children i d (path, x) at (each d led))

there_or : (table : Table) (x : Name) (path : List ℕ) (i : ℕ) (cluster : Name) (f : Name → List Placed) (o : Option (List Name)) → ((d : Name) → led_to table path d ≡ Some x → In (path, x) (f d)) → option_and_then (led_to table path) (option_and_then (λ ds. slice_get ds i) o) ≡ Some x → In (i ∷ path, x) (or_placed cluster f o)
there_or table x path i cluster f None each led = cc
there_or table x path i cluster f (Some children) each led = there_at table x path i f children (slice_get children i) refl each led

pub listed : (table : Table) (n : ℕ) (cluster : Name) (path : List ℕ) (x : Name) → length path < n → LeadsTo table cluster path x → In (path, x) (placed table n cluster)
listed table zero cluster path x short l = absurd (omega arith)
listed table (suc n) cluster [] x short l = let same : cluster ≡ x = let w = l.0 in cc in here_or table cluster x (placed table n) (table cluster) refl same l.1
listed table (suc n) cluster (i ∷ path) x short l =
    there_or table x path i cluster (placed table n) (table cluster) (λ d led. listed table n d path x (omega arith) (led, l.1)) l.0

-- ---- they ascend

abbrev pub Ascends : List Placed → Type 0
Ascends [] = Unit {0}
Ascends (e ∷ es) = ((f : Placed) → In f es → IsBefore e.0 f.0) × Ascends es

before_under : (i : ℕ) (p q : List ℕ) → IsBefore p q → IsBefore (i ∷ p) (i ∷ q)
before_under i p q h = ap (λ o. ordering_then o (slice_cmp nat_cmp p q)) (tied_itself nat_cmp_total i) ∙ h

before_next : (i j : ℕ) (p q : List ℕ) → i < j → IsBefore (i ∷ p) (j ∷ q)
before_next i j p q lt = ap (λ o. ordering_then o (slice_cmp nat_cmp p q)) (sym (nat_cmp_is i j Less lt))

ascends_append : (xs ys : List Placed) → Ascends xs → Ascends ys → ((e f : Placed) → In e xs → In f ys → IsBefore e.0 f.0) → Ascends (xs ++ ys)
ascends_append [] ys hx hy apart = hy
ascends_append (x ∷ xs) ys hx hy apart =
    (λ f m. elim (in_append f xs ys m) [ inl w ↦ hx.0 f w | inr w ↦ apart x f (inl refl) w ], ascends_append xs ys hx.1 hy (λ e f m w. apart e f (inr m) w))

ascends_under : (i : ℕ) (xs : List Placed) → Ascends xs → Ascends (map (under i) xs)
ascends_under i [] h = tt
ascends_under i (x ∷ xs) h = (λ f m. let (s, w, is) = in_map (under i) f xs m in subst (λ g. IsBefore (i ∷ x.0) g.0) is (before_under i x.0 s.0 (h.0 s w)), ascends_under i xs h.1)

ascends_from : (i : ℕ) (f : Name → List Placed) → ((x : Name) → Ascends (f x)) → (xs : List Name) → Ascends (placed_from i f xs)
ascends_from i f each [] = tt
ascends_from i f each (x ∷ xs) =
    ascends_append (map (under i) (f x)) (placed_from (suc i) f xs) (ascends_under i (f x) (each x)) (ascends_from (suc i) f each xs) apart
  where
    apart : (e g : Placed) → In e (map (under i) (f x)) → In g (placed_from (suc i) f xs) → IsBefore e.0 g.0
    apart e g m w =
        let (s, a, is) = in_map (under i) e (f x) m in
        let (k, y, r, at, b, be) = from_children (suc i) f xs g w in
        let lt : i < suc i + k = omega arith in
        subst (λ d. IsBefore d.0 g.0) is (subst (λ d. IsBefore (i ∷ s.0) d.0) be (before_next i (suc i + k) s.0 r.0 lt))

ascends_or : (cluster : Name) (f : Name → List Placed) → ((x : Name) → Ascends (f x)) → (o : Option (List Name)) → Ascends (or_placed cluster f o)
ascends_or cluster f each None = (λ g m. absurd m, tt)
ascends_or cluster f each (Some children) = ascends_from 0 f each children

pub ascends : (table : Table) (n : ℕ) (cluster : Name) → Ascends (placed table n cluster)
ascends table zero cluster = tt
ascends table (suc n) cluster = ascends_or cluster (placed table n) (ascends table n) (table cluster)
