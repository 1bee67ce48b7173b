-- The checks of a ClusterLoadAssignment (gRFC A27, A56, Envoy's endpoint API), step by step over the whole resource: all
-- drop rules, all addresses, then localities that stand twice, weights, and the gap between priorities.
use Rattle.std.specs.Prelude.{ℕ, ◌+◌, ◌^◌, List, [], ◌∷◌, filter, sum, Bool, true, not, ◌&&◌, ◌||◌, ◌==◌, nat_lt, nat_le, bytes_eq, if◌then◌else◌, Option, Some, None, unwrap_or, Result, Ok, Err}
use Rattle.std.specs.List.{list_all, list_any}
use Rattle.xc_base.specs.Addresses.{address_of}
use Rattle.xc_base.specs.declared.reason.Reason.TheVariants as reason
use Rattle.weight_pick.specs.declared.fraction.DropRule.{DropRule}
use Rattle.proto_cluster.specs.declared.assignment.RawDrop.{RawDrop}
use Rattle.proto_cluster.specs.declared.assignment.RawPolicy.{RawPolicy}
use Rattle.proto_cluster.specs.declared.assignment.RawAssignment.{RawAssignment}
use Rattle.proto_cluster.specs.declared.endpoint.RawSocket.{RawSocket}
use Rattle.proto_cluster.specs.declared.endpoint.RawAddress.{RawAddress}
use Rattle.proto_cluster.specs.declared.endpoint.RawEndpoint.{RawEndpoint}
use Rattle.proto_cluster.specs.declared.endpoint.RawLbEndpoint.{RawLbEndpoint}
use Rattle.proto_cluster.specs.declared.locality.RawLocality.{RawLocality}
use Rattle.proto_cluster.specs.declared.locality.RawLocalityLbEndpoints.{RawLocalityLbEndpoints}
use Rattle.xds_config.specs.declared.endpoint_values.EndpointValue.{EndpointValue}
use Rattle.xds_config.specs.declared.endpoint_values.Locality.{Locality}
use Rattle.xds_config.specs.declared.endpoint_values.LocalityId.{LocalityId}
use Rattle.xds_config.specs.Endpoints.{priority_weights}
use Rattle.check_steps.specs.declared.check_fault.Stop.{Stop}
use Rattle.check_steps.specs.declared.check_fault.Stop.TheVariants.{Because}
use Rattle.check_steps.specs.TableSteps.{◌>>=◌, demand, each}
use Rattle.check_steps.specs.CallFractions.{part_of}

-- ---- drop rules

abbrev pub drops_in : Option RawPolicy → List RawDrop
drops_in None = []
drops_in (Some policy) = policy.drop_overloads

unfoldable pub drop_rule_of : RawDrop → Result DropRule Stop
drop_rule_of drop = part_of drop.drop_percentage >>= λ part. Ok record { category = drop.category; fraction = part }

-- ---- localities with their addresses

abbrev pub addressed : Option (List ℕ) → Result (List ℕ) Stop
addressed None = Err (Because reason.Address)
addressed (Some address) = Ok address

-- the address is numeric, with a port of 1 to 65,535
abbrev pub socket_address : Option RawSocket → Result (List ℕ) Stop
socket_address None = Err (Because reason.Address)
socket_address (Some socket) = addressed (address_of socket.address socket.port_value)

abbrev pub address_in : Option RawAddress → Result (List ℕ) Stop
address_in None = Err (Because reason.Address)
address_in (Some address) = socket_address address.socket_address

-- an endpoint without an address has none that is numeric
abbrev pub endpoint_in : Option RawEndpoint → Result (List ℕ) Stop
endpoint_in None = Err (Because reason.Address)
endpoint_in (Some endpoint) = address_in endpoint.address

abbrev pub endpoint_address : RawLbEndpoint → Result (List ℕ) Stop
endpoint_address e = endpoint_in e.endpoint

-- endpoints of unknown health count as healthy; all others but healthy ones are left out, unchecked
abbrev pub is_healthy : RawLbEndpoint → Bool
is_healthy e = e.health_status == 0 || e.health_status == 1

abbrev pub weight_of : RawLocalityLbEndpoints → ℕ
weight_of l = unwrap_or l.load_balancing_weight 0

-- localities without weight, or with weight 0, are left out, unchecked
abbrev pub is_weighed : RawLocalityLbEndpoints → Bool
is_weighed l = nat_lt 0 (weight_of l)

-- a locality that is absent is the one with three empty texts
abbrev pub id_of : Option RawLocality → LocalityId
id_of None = record { region = []; zone = []; sub_zone = [] }
id_of (Some l) = record { region = l.region; zone = l.zone; sub_zone = l.sub_zone }

unfoldable pub locality_of : RawLocalityLbEndpoints → Result Locality Stop
locality_of l = do
  addresses ← each endpoint_address (filter is_healthy l.lb_endpoints)
  Ok record { id = id_of l.locality; priority = l.priority; weight = weight_of l; addresses = addresses }

-- ---- in ascending priority, and inside a priority in the resource's order

abbrev pub put : Locality → List Locality → List Locality
put l [] = l ∷ []
put l (m ∷ ms) = if nat_le l.priority m.priority then l ∷ m ∷ ms else m ∷ put l ms

abbrev pub by_priority : List Locality → List Locality
by_priority [] = []
by_priority (l ∷ ls) = put l (by_priority ls)

-- ---- rules on all localities

abbrev pub is_same_place : Locality → Locality → Bool
is_same_place a b =
    a.priority == b.priority && (bytes_eq a.id.region b.id.region && (bytes_eq a.id.zone b.id.zone && bytes_eq a.id.sub_zone b.id.sub_zone))

-- none of the localities is of the same priority and name as one after it
abbrev pub stand_once : List Locality → Bool
stand_once [] = true
stand_once (l ∷ ls) = not (list_any (is_same_place l) ls) && stand_once ls

-- the weights of the priority of each locality sum to at most 4,294,967,295
abbrev pub have_weights : List Locality → Bool
have_weights ls = list_all (λ l. nat_lt (sum (priority_weights l.priority ls)) (2 ^ 32)) ls

-- the priority is 0, or the one below it is there
abbrev pub has_no_gap : List Locality → ℕ → Bool
has_no_gap ls priority = priority == 0 || list_any (λ l. l.priority + 1 == priority) ls

abbrev pub have_no_gap : List Locality → Bool
have_no_gap ls = list_all (λ l. has_no_gap ls l.priority) ls

unfoldable pub stand_soundly : List Locality → Result (Unit {0}) Stop
stand_soundly localities = do
  once ← demand (stand_once localities) reason.LocalityTwice
  fit ← demand (have_weights localities) reason.Weights
  demand (have_no_gap localities) reason.PriorityGap

-- ---- the whole

unfoldable pub assignment_value : List ℕ → RawAssignment → Result EndpointValue Stop
assignment_value name raw = do
  drops ← each drop_rule_of (drops_in raw.policy)
  found ← each locality_of (filter is_weighed raw.endpoints)
  localities ← Ok (by_priority found)
  sound ← stand_soundly localities
  Ok record { name = name; localities = localities; drops = drops }
