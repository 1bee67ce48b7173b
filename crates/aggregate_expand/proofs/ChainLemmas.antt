-- Chains, by places and by how far they go on.
use Rattle.std.proofs.Common.{◌≡◌, ℕ, zero, suc, ◌+◌, ◌≤◌, List, [], ◌∷◌, true, false, refl, sym, ◌∙◌, ap, arith, length, Option, Some, None}
use Rattle.std.specs.Prelude.{slice_get, option_and_then, IsSome}
use Rattle.std.specs.List.{list_any}
use Rattle.std.proofs.lemmas.Bool.{true≢false}
use Rattle.std.proofs.lemmas.Map.Keys.{any_passes_from_place}
use Rattle.std.proofs.lemmas.Option.{slice_get-get_or}
use Rattle.std.proofs.lemmas.List.Folds.{Any-from_list_any}
use Rattle.aggregate_expand.specs.LookedUp.{Name}
use Rattle.aggregate_expand.specs.Chains.{Table, led_to, HasChain}
use Rattle.aggregate_expand.specs.Leaves.{goes_on, any_child}

any_at : (table : Table) (n : ℕ) (path : List ℕ) (x : Name) (children : List Name) (i : ℕ) (o : Option Name) → ((d : Name) → led_to table path d ≡ Some x → goes_on table n d ≡ true) → slice_get children i ≡ o → option_and_then (led_to table path) o ≡ Some x → list_any (goes_on table n) children ≡ true
any_at table n path x children i None each at led = cc
any_at table n path x children i (Some d) each at led = any_passes_from_place (goes_on table n) children i d at (each d led)

any_or : (table : Table) (n : ℕ) (path : List ℕ) (x : Name) (i : ℕ) (o : Option (List Name)) → ((d : Name) → led_to table path d ≡ Some x → goes_on table n d ≡ true) → option_and_then (led_to table path) (option_and_then (λ ds. slice_get ds i) o) ≡ Some x → any_child (goes_on table n) o ≡ true
any_or table n path x i None each led = cc
any_or table n path x i (Some children) each led = any_at table n path x children i (slice_get children i) each refl led

-- a chain can be followed as far as places lead
pub goes_along : (table : Table) (n : ℕ) (path : List ℕ) (cluster x : Name) → n ≤ length path → led_to table path cluster ≡ Some x → goes_on table n cluster ≡ true
unfolding goes_on
goes_along table zero path cluster x le led = refl
goes_along table (suc n) [] cluster x le led = absurd (omega arith)
goes_along table (suc n) (i ∷ path) cluster x le led =
    any_or table n path x i (table cluster) (λ d w. goes_along table n path d x (omega arith) w) led

-- and the other way
chain_or : (table : Table) (n : ℕ) (cluster : Name) (o : Option (List Name)) → ((d : Name) → goes_on table n d ≡ true → (path : List ℕ) × (x : Name) × (length path ≡ n) × (led_to table path d ≡ Some x)) → table cluster ≡ o → any_child (goes_on table n) o ≡ true → (path : List ℕ) × (x : Name) × (length path ≡ suc n) × (led_to table path cluster ≡ Some x)
chain_or table n cluster None each is long = cc
chain_or table n cluster (Some children) each is long =
    let (k, d, lt, at, w) = Any-from_list_any (goes_on table n) children long in
    let (path, x, len, led) = each d w in (
      k ∷ path,
      x,
      omega arith,
      ap (λ o. option_and_then (led_to table path) (option_and_then (λ ds. slice_get ds k) o)) is
          ∙ ap (option_and_then (led_to table path)) (slice_get-get_or children k d lt ∙ ap (λ y. Some y) at)
          ∙ led,
    )

chain_of : (table : Table) (n : ℕ) (cluster : Name) → goes_on table n cluster ≡ true → (path : List ℕ) × (x : Name) × (length path ≡ n) × (led_to table path cluster ≡ Some x)
unfolding goes_on
chain_of table zero cluster long = ([], cluster, refl, refl)
chain_of table (suc n) cluster long = chain_or table n cluster (table cluster) (chain_of table n) refl long

some_is : (o : Option Name) (x : Name) → o ≡ Some x → IsSome o
some_is None x is = cc
some_is (Some y) x is = refl

pub has_chain : (table : Table) (n : ℕ) (cluster : Name) → goes_on table n cluster ≡ true → HasChain table (n + 1) cluster
has_chain table n cluster long =
    let (path, x, len, led) = chain_of table n cluster long in (path, ap (λ k. k + 1) len, some_is _ x led)

given : (table : Table) (n : ℕ) (path : List ℕ) (cluster : Name) (o : Option Name) → led_to table path cluster ≡ o → IsSome o → n ≤ length path → goes_on table n cluster ≡ true
given table n path cluster None is some le = cc
given table n path cluster (Some x) is some le = goes_along table n path cluster x le is

pub no_chain : (table : Table) (n : ℕ) (cluster : Name) → goes_on table n cluster ≡ false → HasChain table (n + 1) cluster → ⊥
no_chain table n cluster short (path, len, some) = true≢false (sym (given table n path cluster (led_to table path cluster) refl some (omega arith)) ∙ short)
