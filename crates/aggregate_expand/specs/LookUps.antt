-- Which pairs of a cluster and a chain length are looked up, one step each.
use Rattle.std.specs.Prelude.{◌≡◌, ◌≢◌, ℕ, ◌+◌, ◌≤◌, List, Some, length, All, AllPairs}
use Rattle.aggregate_expand.specs.declared.visits.Visit.{Visit}
use Rattle.aggregate_expand.specs.LookedUp.{Name}
use Rattle.aggregate_expand.specs.Chains.{Table, longest_chain, led_to}

-- a chain from the cluster, whose place in a longer one is given, has the visit's length and ends with its
-- cluster
abbrev pub IsOnChain : Table → Name → ℕ → Visit → Type 0
IsOnChain table cluster place visit = (path : List ℕ) × (led_to table path cluster ≡ Some visit.name) × (length path + place ≡ visit.chain_length)

-- no pair of a cluster and a chain length is looked up twice, and each look-up is one step
pub record AreLookedUp (table : Table) (cluster : Name) (before after : ℕ) (visits : List Visit) : Type 0 where
  pub once : AllPairs (λ visit other. visit ≢ other) visits
  pub on_chains : All (IsOnChain table cluster 1) visits
  pub short : All (λ visit. visit.chain_length ≤ longest_chain) visits
  pub steps : after ≡ before + length visits

-- the steps counted are those of some such look-ups
abbrev pub CountsLookUps : Table → Name → ℕ → ℕ → Type 0
CountsLookUps table cluster before after = (visits : List Visit) × AreLookedUp table cluster before after visits
