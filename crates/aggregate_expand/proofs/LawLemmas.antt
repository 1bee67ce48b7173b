-- The laws of the leaves.
use Rattle.std.proofs.Common.{◌≡◌, ◌<◌, ℕ, zero, suc, ◌+◌, List, [], ◌∷◌, ◌++◌, Bool, true, false, ◌||◌, refl, ◌∙◌, ap, arith, length, Option, Some, None}
use Rattle.std.specs.Prelude.{◌↔◌, Ok, Err, if◌then◌else◌, slice_get, option_and_then}
use Rattle.std.specs.List.{list_any, flat_map}
use Rattle.aggregate_expand.specs.declared.expand_fault.ExpandFault.TheVariants.{Depth}
use Rattle.aggregate_expand.specs.LookedUp.{Name, with_names}
use Rattle.aggregate_expand.specs.Chains.{Table, led_to, HasChain, AreLeaves}
use Rattle.aggregate_expand.specs.Leaves.{goes_on, ends, any_child, or_children, leaves_within}
use Rattle.aggregate_expand.specs.LeafLaws.{AreLedTo, AgreeOnChains}
use Rattle.aggregate_expand.proofs.ChainLemmas.{has_chain, no_chain}
use Rattle.aggregate_expand.proofs.PathLemmas.{by_paths}
use Rattle.aggregate_expand.proofs.OnlyLemmas.{leaves_are_one}

-- ---- by places

deep : (b : Bool) (found : List Name) → (if b then Err Depth else Ok found) ≡ Err Depth → b ≡ true
deep true found is = refl
deep false found is = cc

free : (b : Bool) (found names : List Name) → (if b then Err Depth else Ok found) ≡ Ok names → (b ≡ false) × (found ≡ names)
free true found names is = cc
free false found names is = (refl, cc)

depth_is : (most : ℕ) (table : Table) (cluster : Name) → (leaves_within most table cluster ≡ Err Depth) ↔ HasChain table (most + 1) cluster
unfolding leaves_within
depth_is most table cluster = (
  λ is. has_chain table most cluster (deep (goes_on table most cluster) _ is),
  λ chain. on (goes_on table most cluster) refl chain,
)
  where
    on : (b : Bool) → goes_on table most cluster ≡ b → HasChain table (most + 1) cluster → (if b then Err Depth else Ok (with_names [] (ends table most cluster))) ≡ Err Depth
    on true is chain = refl
    on false is chain = absurd (no_chain table most cluster is chain)

leaves_are : (most : ℕ) (table : Table) (cluster : Name) (names : List Name) → (leaves_within most table cluster ≡ Ok names) ↔ (AreLeaves table cluster names × (HasChain table (most + 1) cluster → ⊥))
unfolding leaves_within
leaves_are most table cluster names = (
  λ is. let parts = free (goes_on table most cluster) (with_names [] (ends table most cluster)) names is in (rw (← parts.1) (by_paths table most cluster parts.0), no_chain table most cluster parts.0),
  λ are. on (goes_on table most cluster) refl are,
)
  where
    on : (b : Bool) → goes_on table most cluster ≡ b → AreLeaves table cluster names × (HasChain table (most + 1) cluster → ⊥) → (if b then Err Depth else Ok (with_names [] (ends table most cluster))) ≡ Ok names
    on true is are = absurd (are.1 (has_chain table most cluster is))
    on false is are = ap (λ found. Ok found) (leaves_are_one table most cluster names is are.0)

pub are_led_to : (table : Table) (cluster : Name) → AreLedTo table cluster
are_led_to table cluster = record { depth = depth_is 16 table cluster; leaves = leaves_are 16 table cluster }

-- ---- by the clusters of chains

abbrev Agree : Table → Table → ℕ → Name → Type 0
Agree table other most cluster = (path : List ℕ) (name : Name) → length path < most → led_to table path cluster ≡ Some name → other name ≡ table name

agree_child : (table other : Table) (most : ℕ) (cluster : Name) (children : List Name) (i : ℕ) (child : Name) → table cluster ≡ Some children → slice_get children i ≡ Some child →
    Agree table other (suc most) cluster → Agree table other most child
agree_child table other most cluster children i child is at agree path name short led =
    agree (i ∷ path) name (omega arith)
    (ap (λ o. option_and_then (led_to table path) (option_and_then (λ ds. slice_get ds i) o)) is ∙ ap (λ o. option_and_then (led_to table path) o) at ∙ led)

any_same : (f g : Name → Bool) (children : List Name) → ((i : ℕ) (child : Name) → slice_get children i ≡ Some child → f child ≡ g child) → list_any f children ≡ list_any g children
any_same f g [] each = refl
any_same f g (child ∷ children) each =
    ap (λ b. b || list_any f children) (each 0 child refl) ∙ ap (λ b. g child || b) (any_same f g children (λ i x at. each (suc i) x at))

flat_same : (f g : Name → List Name) (children : List Name) → ((i : ℕ) (child : Name) → slice_get children i ≡ Some child → f child ≡ g child) → flat_map f children ≡ flat_map g children
flat_same f g [] each = refl
flat_same f g (child ∷ children) each =
    ap (λ xs. xs ++ flat_map f children) (each 0 child refl) ∙ ap (λ xs. g child ++ xs) (flat_same f g children (λ i x at. each (suc i) x at))

any_child_same : (f g : Name → Bool) (o : Option (List Name)) → ((children : List Name) → o ≡ Some children → (i : ℕ) (child : Name) → slice_get children i ≡ Some child → f child ≡ g child) → any_child f o ≡ any_child g o
any_child_same f g None each = refl
any_child_same f g (Some children) each = any_same f g children (each children refl)

or_children_same : (cluster : Name) (f g : Name → List Name) (o : Option (List Name)) → ((children : List Name) → o ≡ Some children → (i : ℕ) (child : Name) → slice_get children i ≡ Some child → f child ≡ g child) → or_children cluster f o ≡ or_children cluster g o
or_children_same cluster f g None each = refl
or_children_same cluster f g (Some children) each = flat_same f g children (each children refl)

goes_same : (table other : Table) (most : ℕ) (cluster : Name) → Agree table other most cluster → goes_on other most cluster ≡ goes_on table most cluster
unfolding goes_on
goes_same table other zero cluster agree = refl
goes_same table other (suc most) cluster agree =
    ap (any_child (goes_on other most)) (agree [] cluster (omega arith) refl)
    ∙ any_child_same (goes_on other most) (goes_on table most) (table cluster) (λ children is i child at. goes_same table other most child (agree_child table other most cluster children i child is at agree))

ends_same : (table other : Table) (most : ℕ) (cluster : Name) → Agree table other most cluster → ends other most cluster ≡ ends table most cluster
unfolding ends
ends_same table other zero cluster agree = refl
ends_same table other (suc most) cluster agree =
    ap (or_children cluster (ends other most)) (agree [] cluster (omega arith) refl)
    ∙ or_children_same cluster (ends other most) (ends table most) (table cluster) (λ children is i child at. ends_same table other most child (agree_child table other most cluster children i child is at agree))

rest_on : (most : ℕ) (table other : Table) (cluster : Name) → Agree table other most cluster → leaves_within most other cluster ≡ leaves_within most table cluster
unfolding leaves_within
rest_on most table other cluster agree =
    ap (λ b. if b then Err Depth else Ok (with_names [] (ends other most cluster))) (goes_same table other most cluster agree)
    ∙ ap (λ es. if goes_on table most cluster then Err Depth else Ok (with_names [] es)) (ends_same table other most cluster agree)

pub leaves_rest_on_chains : (table other : Table) (cluster : Name) → AgreeOnChains table other cluster → leaves_within 16 other cluster ≡ leaves_within 16 table cluster
leaves_rest_on_chains table other cluster agree = rest_on 16 table other cluster agree
