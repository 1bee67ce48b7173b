-- Pairs of a cluster and a chain length, in order, and how many were looked up.
use Rattle.std.proofs.Common.{◌≡◌, ℕ, ◌+◌, ◌≤◌, List, [], Bool, true, sym, ◌∙◌, ap, subst, arith, length, get_or, inl, inr}
use Rattle.std.specs.Prelude.{Ok, not, ◌≢◌, if◌then◌else◌}
use Rattle.std.specs.List.{All, AllPairs}
use Rattle.std.specs.List.Sorted.{IsStrictlySortedBy}
use Rattle.std.specs.Ordering.{nat_cmp, is_eq, ordering_then}
use Rattle.std.proofs.lemmas.Bool.{true≢false, not-true}
use Rattle.std.proofs.lemmas.Cmp.{tied_itself, nat_cmp_total, nat_list_cmp_total}
use Rattle.std.proofs.lemmas.List.Folds.{list_any_at}
use Rattle.std.proofs.lemmas.Map.Keys.{apart_from_distinct, IsDistinct-from_sorted}
use Rattle.aggregate_expand.specs.declared.visits.Visit.{Visit}
use Rattle.aggregate_expand.specs.LookedUp.{Name}
use Rattle.aggregate_expand.specs.Chains.{Table, longest_chain}
use Rattle.aggregate_expand.specs.LookUps.{IsOnChain, CountsLookUps}
use Rattle.aggregate_expand.specs.LeafWalk.{Marks, is_visit, is_visited, visit_cmp, AddsOnChains}
use Rattle.aggregate_expand.proofs.WalkLemmas.{HasMarked}

pub marks_from : (old new : List Visit) (given name : Name) (chain_length : ℕ) (is_new : Bool) → given ≡ name → is_new ≡ true → is_new ≡ not (is_visited old record { name = given; chain_length = chain_length })
    → HasMarked old new record { name = given; chain_length = chain_length }
    → length new ≡ length old + (if is_new then 1 else 0)
    → Marks old new record { name = name; chain_length = chain_length } (Ok true)
marks_from old new given name chain_length is_new same is told marked count =
    let F : Name → Type 0 = λ x. Marks old new record { name = x; chain_length = chain_length } (Ok true) in
    subst F same (not-true _ (sym told ∙ is), marked, count ∙ ap (λ b. length old + (if b then 1 else 0)) is)

is_itself : (visit : Visit) → is_visit visit visit ≡ true
is_itself visit = ap is_eq (ap (λ o. ordering_then o (nat_cmp visit.chain_length visit.chain_length)) (tied_itself nat_list_cmp_total visit.name) ∙ tied_itself nat_cmp_total visit.chain_length)

-- pairs in order differ
pub all_differ : (visits : List Visit) → IsStrictlySortedBy visit_cmp visits → AllPairs (λ visit other. visit ≢ other) visits
all_differ visits sorted i j d lt within same =
    true≢false (sym (is_itself (get_or visits i d)) ∙ ap (is_visit (get_or visits i d)) same ∙ apart_from_distinct is_visit visits i j d (IsDistinct-from_sorted visit_cmp visits sorted) lt within)

-- from nothing, each pair is on a chain and short enough
added : (table : Table) (cluster : Name) (place : ℕ) (visits : List Visit) → AddsOnChains table cluster place [] visits → All (λ visit. IsOnChain table cluster place visit × (visit.chain_length ≤ longest_chain)) visits
added table cluster place visits adds k d lt =
    elim (adds (get_or visits k d) (list_any_at (is_visit (get_or visits k d)) visits k d lt (is_itself (get_or visits k d)))) [ inl old ↦ absurd (true≢false (sym old)) | inr new ↦ new ]

pub counted : (table : Table) (cluster : Name) (start visits : List Visit) (old new : ℕ) → start ≡ [] → AllPairs (λ visit other. visit ≢ other) visits → AddsOnChains table cluster 1 start visits →
    new + length start ≡ old + length visits → CountsLookUps table cluster old new
counted table cluster start visits old new empty differ adds steps =
    let each = added table cluster 1 visits (subst (λ l. AddsOnChains table cluster 1 l visits) empty adds) in (
      visits,
      record {
        once = differ;
        on_chains = λ k d lt. (each k d lt).0;
        short = λ k d lt. (each k d lt).1;
        steps = sum new old (length visits) (subst (λ l. new + length l ≡ old + length visits) empty steps);
      },
    )
  where
    sum : (a b d : ℕ) → a + 0 ≡ b + d → a ≡ b + d
    sum a b d h = omega arith
