-- The children of a priority balancer, and their states by what endpoints report (gRFC A56, A74).
use Rattle.std.specs.Prelude.{ℕ, ◌+◌, ◌-◌, ◌==◌, List, [], map, length, slice_get, filter, unwrap_or, Result, Ok, Err}
use Rattle.std.specs.Option.{option_map_or}
use Rattle.std.specs.List.{flat_map, range_with_len}
use Rattle.std.specs.Map.{lookup}
use Rattle.std.specs.Ordering.{nat_cmp, is_eq}
use Rattle.std.specs.Cmp.Lexicographic.{slice_cmp}
use Rattle.xc_base.specs.declared.names.State.{State}
use Rattle.xc_base.specs.declared.names.State.TheVariants.{Connecting}
use Rattle.xc_base.specs.declared.reason.Reason.{Reason}
use Rattle.xds_config.specs.declared.config.Leaf.{Leaf}
use Rattle.xds_config.specs.declared.endpoint_values.EndpointValue.{EndpointValue}
use Rattle.xds_config.specs.declared.endpoint_values.Locality.{Locality}
use Rattle.weighted_lb.specs.States.{joined}
use Rattle.priority_lb.specs.ChildHistories.{Name}

-- the states that addresses reported last
abbrev pub Reports : Type 0
Reports = List (List ℕ × State)

-- the state that an address reported last; before that it is CONNECTING
abbrev pub state_in : Reports → List ℕ → State
state_in reports address = unwrap_or (lookup (λ a. is_eq (slice_cmp nat_cmp address a)) reports) Connecting

-- a locality over its addresses
abbrev pub locality_in : Reports → Locality → State
locality_in reports locality = joined (map (state_in reports) locality.addresses)

abbrev pub at_priority : ℕ → List Locality → List Locality
at_priority priority localities = filter (λ l. l.priority == priority) localities

-- a priority over its localities
abbrev pub priority_in : Reports → ℕ → List Locality → State
priority_in reports priority localities = joined (map (locality_in reports) (at_priority priority localities))

abbrev pub localities_in : Result EndpointValue Reason → List Locality
localities_in (Ok endpoints) = endpoints.localities
localities_in (Err reason) = []

-- a leaf in error has no localities
abbrev pub localities_of : Leaf → List Locality
localities_of leaf = localities_in leaf.state

-- how many priorities there are, the greatest of which is that of the last locality: one where there is no locality
abbrev pub priority_count : List Locality → ℕ
priority_count localities = option_map_or (λ l. l.priority + 1) (slice_get localities (length localities - 1)) 1

-- a child is a leaf, and a priority in it
abbrev pub Child : Type 0
Child = Leaf × ℕ

abbrev pub leaf_children : Leaf → List Child
leaf_children leaf = map (λ priority. (leaf, priority)) (range_with_len 0 (priority_count (localities_of leaf)))

-- the children of the leaves in their order
abbrev pub children_of : List Leaf → List Child
children_of leaves = flat_map leaf_children leaves

abbrev pub name_of : Child → Name
name_of child = (child.0.name, child.1)

abbrev pub names_of : List Leaf → List Name
names_of leaves = map name_of (children_of leaves)

-- a child without localities is failing
abbrev pub child_in : Reports → Child → State
child_in reports child = priority_in reports child.1 (localities_of child.0)

abbrev pub states_in : Reports → List Leaf → List State
states_in reports leaves = map (child_in reports) (children_of leaves)
