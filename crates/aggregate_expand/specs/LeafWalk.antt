-- What the walk keeps of the pairs that it visited and of the leaves that it found.
use Rattle.std.specs.Prelude.{◌≡◌, ◌⊎◌, ℕ, suc, ◌+◌, ◌-◌, ◌≤◌, List, Bool, true, false, if◌then◌else◌, Ok, Err, length, Result}
use Rattle.std.specs.List.{list_any, list_all}
use Rattle.std.specs.declared.cmp.Ordering.{Ordering}
use Rattle.std.specs.Ordering.{nat_cmp, on, then_cmp, is_eq}
use Rattle.std.specs.Cmp.Lexicographic.{slice_cmp}
use Rattle.aggregate_expand.specs.declared.visits.Visit.{Visit}
use Rattle.aggregate_expand.specs.declared.expand_fault.ExpandFault.{ExpandFault}
use Rattle.aggregate_expand.specs.LookedUp.{Name, has_name}
use Rattle.aggregate_expand.specs.Chains.{Table, longest_chain}
use Rattle.aggregate_expand.specs.Leaves.{goes_on, ends}
use Rattle.aggregate_expand.specs.LookUps.{IsOnChain}

-- how many clusters a chain may have from the one on that ends it at this length
abbrev pub room_at : ℕ → ℕ
room_at chain_length = suc longest_chain - chain_length

abbrev pub visit_cmp : Visit → Visit → Ordering
visit_cmp = then_cmp (on (λ visit. visit.name) (slice_cmp nat_cmp)) (on (λ visit. visit.chain_length) nat_cmp)

abbrev pub is_visit : Visit → Visit → Bool
is_visit visit other = is_eq (visit_cmp visit other)

-- whether the pair was visited
abbrev pub is_visited : List Visit → Visit → Bool
is_visited visits visit = list_any (is_visit visit) visits

-- the pair is marked, where it wasn't
abbrev pub Marks : List Visit → List Visit → Visit → Result Bool ExpandFault → Type 0
Marks old new visit (Ok true) = (is_visited old visit ≡ false) × ((other : Visit) → is_visited new other ≡ (if is_visit visit other then true else is_visited old other)) × (length new ≡ length old + 1)
Marks old new visit (Ok false) = (is_visited old visit ≡ true) × (new ≡ old)
Marks old new visit (Err fault) = new ≡ old

-- each new pair is on a chain from the cluster, and none is longer than a chain may be
abbrev pub AddsOnChains : Table → Name → ℕ → List Visit → List Visit → Type 0
AddsOnChains table cluster place old new = (visit : Visit) → is_visited new visit ≡ true → (is_visited old visit ≡ true) ⊎ (IsOnChain table cluster place visit × (visit.chain_length ≤ longest_chain))

-- each visited pair with no more room than this is done with: its chains end in time, and its leaves are found
pub record AreDone (table : Table) (room : ℕ) (visits : List Visit) (found : List Name) : Type 0 where
  pub free : (visit : Visit) → is_visited visits visit ≡ true → room_at visit.chain_length ≤ room → goes_on table (room_at visit.chain_length) visit.name ≡ false
  pub held : (visit : Visit) → is_visited visits visit ≡ true → room_at visit.chain_length ≤ room → list_all (has_name found) (ends table (room_at visit.chain_length) visit.name) ≡ true
