-- The check of a resource of a kind (gRFC A27, Envoy's xDS transport): a checked value with its name, or the step at which
-- its checks stop. `refuses` tells which texts are refused as patterns.
use Rattle.std.specs.Prelude.{ℕ, List, [], ◌∷◌, Bool, bytes_eq, if◌then◌else◌, Option, Some, None, Result, Ok, Err}
use Rattle.xc_base.specs.declared.names.Kind.{Kind}
use Rattle.xc_base.specs.declared.names.Kind.TheVariants as kind
use Rattle.xc_base.specs.declared.reason.Reason.{Reason}
use Rattle.xc_base.specs.declared.reason.Reason.TheVariants.{BadPattern, NoName, WrongType}
use Rattle.proto_discovery.specs.TypeUrls.{type_url_of}
use Rattle.proto_discovery.specs.Wrapper.{unwrapped}
use Rattle.proto_discovery.specs.declared.any.AnyValue.{AnyValue}
use Rattle.proto_discovery.specs.declared.wrapper.Unwrapped.{Unwrapped}
use Rattle.proto_listener.specs.Listener.{listener_of}
use Rattle.proto_route.specs.RawRouteFields.{routes_of}
use Rattle.proto_cluster.specs.Cluster.{cluster_of}
use Rattle.proto_cluster.specs.Assignment.{assignment_of}
use Rattle.xds_config.specs.declared.value.Value.{Value}
use Rattle.xds_config.specs.declared.value.Value.TheVariants as value
use Rattle.xds_name.specs.Names.{canonical_of}
use Rattle.check_steps.specs.declared.check_fault.Stop.{Stop}
use Rattle.check_steps.specs.declared.check_fault.Stop.TheVariants.{Because, Refused}
use Rattle.check_steps.specs.declared.check_fault.Refusal.{Refusal}
use Rattle.resource_check.specs.declared.raw.Raw.{Raw}
use Rattle.resource_check.specs.declared.raw.Raw.TheVariants as raw
use Rattle.resource_check.specs.declared.raw.Found.{Found}
use Rattle.resource_check.specs.declared.resource.Checked.{Checked}
use Rattle.check_clusters.specs.Assignments.{assignment_value}
use Rattle.check_clusters.specs.ClusterTable.{cluster_value}
use Rattle.check_routes.specs.ListenerTable.{listener_value}
use Rattle.check_steps.specs.ResourceNames.{required_name}
use Rattle.check_routes.specs.RouteTable.{route_value}
use Rattle.check_steps.specs.TableSteps.{◌>>=◌, demand, readable}

-- a step at which the resource has this name
abbrev pub under : {A : Type 0} → Option (List ℕ) → Result A Stop → Result A Refusal
under name (Ok x) = Ok x
under name (Err stop) = Err record { name = name; stop = stop }

-- the message of a resource of the kind
abbrev pub read_raw : Kind → List ℕ → Result Raw ℕ
read_raw kind.Listener bytes = listener_of bytes >>= λ message. Ok (raw.Listener message)
read_raw kind.Route bytes = routes_of bytes >>= λ message. Ok (raw.Route message)
read_raw kind.Cluster bytes = cluster_of bytes >>= λ message. Ok (raw.Cluster message)
read_raw kind.Endpoint bytes = assignment_of bytes >>= λ message. Ok (raw.Endpoint message)

-- the kind that it is a resource of
abbrev pub raw_kind : Raw → Kind
raw_kind (raw.Listener message) = kind.Listener
raw_kind (raw.Route message) = kind.Route
raw_kind (raw.Cluster message) = kind.Cluster
raw_kind (raw.Endpoint message) = kind.Endpoint

-- its field 1
abbrev pub own_name : Raw → List ℕ
own_name (raw.Listener message) = message.name
own_name (raw.Route message) = message.name
own_name (raw.Cluster message) = message.name
own_name (raw.Endpoint message) = message.cluster_name

-- the name that a wrapper gives, where it isn't empty
abbrev pub given_name : Option (List ℕ) → Option (List ℕ)
given_name None = None
given_name (Some []) = None
given_name (Some (b ∷ bs)) = Some (canonical_of (b ∷ bs))

-- the wrapper's name, else field 1
abbrev pub name_of : Option (List ℕ) → Raw → Result (List ℕ) Stop
name_of (Some name) message = Ok name
name_of None message = required_name (own_name message)

abbrev pub value_of : (List ℕ → Bool) → List ℕ → Raw → Result Value Stop
value_of refuses name (raw.Listener message) = listener_value refuses name message >>= λ v. Ok (value.Listener v)
value_of refuses name (raw.Route message) = route_value refuses name message >>= λ v. Ok (value.Route v)
value_of refuses name (raw.Cluster message) = cluster_value name message >>= λ v. Ok (value.Cluster v)
value_of refuses name (raw.Endpoint message) = assignment_value name message >>= λ v. Ok (value.Endpoint v)

-- the message of a resource that has the type of the kind
unfoldable pub message_of : Kind → AnyValue → Result Raw Stop
message_of kind any = do
  typed ← demand (bytes_eq any.type_url (type_url_of kind)) WrongType
  readable (read_raw kind any.value)

-- A resource is taken out of its wrapper; it has the type of the kind, and is read; and it has a name. The wrapper's name
-- is known once the wrapper is read, that of field 1 once it is found not to be empty.
unfoldable pub found_of : Kind → AnyValue → Result Found Refusal
found_of kind any = do
  resource ← under None (readable (unwrapped any))
  given ← Ok (given_name resource.name)
  message ← under given (message_of kind resource.inner)
  name ← under None (name_of given message)
  Ok record { name = name; raw = message }

-- then it has a value
unfoldable pub check_of : (List ℕ → Bool) → Kind → AnyValue → Result Checked Refusal
check_of refuses kind any = do
  found ← found_of kind any
  value ← under (Some found.name) (value_of refuses found.name found.raw)
  Ok record { name = found.name; value = value }

-- a pattern that is refused is a bad one
abbrev pub reason_of : Stop → Reason
reason_of (Because reason) = reason
reason_of (Refused pattern) = BadPattern
