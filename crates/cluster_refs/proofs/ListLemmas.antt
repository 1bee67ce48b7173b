-- Members of lists and their parts in sums.
use Rattle.std.proofs.Common.{◌<◌, ◌≤◌, ℕ, List, [], ◌∷◌, ap, arith, ⊎_elim}
use Rattle.std.specs.Prelude.{Contains, sum_by}
use Rattle.std.proofs.lemmas.Bool.{cases_lt}
use Rattle.xc_keys.proofs.MemberLemmas.{here, there}
use Rattle.std.proofs.lemmas.List.Sums.{sum_by-cons, get_or-le-sum_by}

-- some member has a part in a sum above 0
pub sum_has : {X : Type 0} (f : X → ℕ) (xs : List X) → 0 < sum_by f xs → (x : X) × Contains xs x × (0 < f x)
sum_has f [] less = absurd (omega arith)
sum_has f (x ∷ xs) less =
    let e = sum_by-cons f x xs in
    ⊎_elim
    (λ some. (x, here x xs, some))
    (λ none. let rest : 0 < sum_by f xs = omega arith in let found = sum_has f xs rest in (found.0, there x xs found.0 found.1, found.2))
    (cases_lt 0 (f x))

-- each member's part is within the sum
pub part-le-sum_by : {X : Type 0} (f : X → ℕ) (xs : List X) (x : X) → Contains xs x → f x ≤ sum_by f xs
part-le-sum_by f xs x (i, lt, is) = let le = get_or-le-sum_by f xs i x lt in rw (ap f is) at le
