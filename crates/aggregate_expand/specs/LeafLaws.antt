-- Laws of the leaves.
use Rattle.std.specs.Prelude.{◌≡◌, ◌↔◌, ℕ, ◌<◌, List, Some, Ok, Err, length}
use Rattle.aggregate_expand.specs.declared.expand_fault.ExpandFault.TheVariants.{Depth}
use Rattle.aggregate_expand.specs.LookedUp.{Name}
use Rattle.aggregate_expand.specs.Chains.{Table, longest_chain, led_to, HasChain, AreLeaves}
use Rattle.aggregate_expand.specs.Leaves.{leaves_of}

-- a cluster stands for the one list of the leaves to which child places lead, unless a chain of 17 clusters
-- begins with it
pub record AreLedTo (table : Table) (cluster : Name) : Type 0 where
  pub depth : (leaves_of table cluster ≡ Err Depth) ↔ HasChain table 17 cluster
  pub leaves : (names : List Name) → (leaves_of table cluster ≡ Ok names) ↔ (AreLeaves table cluster names × (HasChain table 17 cluster → ⊥))

-- two tables that agree on the clusters of all chains from the cluster
abbrev pub AgreeOnChains : Table → Table → Name → Type 0
AgreeOnChains table other cluster = (path : List ℕ) (name : Name) → length path < longest_chain → led_to table path cluster ≡ Some name → other name ≡ table name
