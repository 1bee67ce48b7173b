-- The leaves of a cluster, computed. A law says that they are those to which child places lead.
use Rattle.std.specs.Prelude.{ℕ, zero, suc, List, [], ◌∷◌, Bool, true, false, Option, Some, None, Result, Ok, Err, if◌then◌else◌}
use Rattle.std.specs.List.{list_any, flat_map}
use Rattle.aggregate_expand.specs.declared.expand_fault.ExpandFault.{ExpandFault}
use Rattle.aggregate_expand.specs.declared.expand_fault.ExpandFault.TheVariants.{Depth}
use Rattle.aggregate_expand.specs.LookedUp.{Name, with_names}
use Rattle.aggregate_expand.specs.Chains.{Table, longest_chain}

-- whether a test holds for a child
abbrev pub any_child : (Name → Bool) → Option (List Name) → Bool
any_child test None = false
any_child test (Some children) = list_any test children

-- whether so many more clusters can follow the cluster in a chain
unfoldable pub goes_on : Table → ℕ → Name → Bool
goes_on table zero cluster = true
goes_on table (suc more) cluster = any_child (goes_on table more) (table cluster)

-- what the children give, in their order, or the cluster itself
abbrev pub or_children : Name → (Name → List Name) → Option (List Name) → List Name
or_children cluster of None = cluster ∷ []
or_children cluster of (Some children) = flat_map of children

-- the leaves on chains of at most so many clusters, in the order of the places that lead to them
unfoldable pub ends : Table → ℕ → Name → List Name
ends table zero cluster = []
ends table (suc most) cluster = or_children cluster (ends table most) (table cluster)

-- what the cluster stands for, where a chain may have so many clusters
unfoldable pub leaves_within : ℕ → Table → Name → Result (List Name) ExpandFault
leaves_within most table cluster = if goes_on table most cluster then Err Depth else Ok (with_names [] (ends table most cluster))

-- what the cluster stands for
abbrev pub leaves_of : Table → Name → Result (List Name) ExpandFault
leaves_of = leaves_within longest_chain
