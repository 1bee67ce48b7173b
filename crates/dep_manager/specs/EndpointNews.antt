-- What is told of keys that changed.
use Rattle.std.specs.Prelude.{List, Bool, ◌&&◌, true, false, Option, Result, IfOk, IfSome, is_some}
use Rattle.std.specs.List.{list_all}
use Rattle.std.specs.Map.{lookup}
use Rattle.std.specs.Option.{option_map_or}
use Rattle.xc_base.specs.declared.names.Kind.{Kind}
use Rattle.xc_base.specs.declared.names.Key.{Key}
use Rattle.xc_base.specs.declared.reason.Reason.{Reason}
use Rattle.xc_keys.specs.Keys.{is_key}
use Rattle.xds_config.specs.declared.endpoint_values.EndpointValue.{EndpointValue}
use Rattle.xds_config.specs.Endpoints.{IsLawfulEndpoints}
use Rattle.xds_cache.specs.KeptFates.{Watched, fate_of, known_of}
use Rattle.config_assembly.specs.Reach.{is_wanted}

-- the endpoints that are known, or why there are none
abbrev pub State : Type 0
State = Result EndpointValue Reason

-- of each key that changed, its endpoints now
abbrev pub Told : Type 0
Told = List (Key × State)

abbrev pub state_in : Told → Key → Option State
state_in told key = lookup (is_key key) told

-- each value passed its checks
abbrev pub AreLawfulNews : Told → Type 0
AreLawfulNews told = (key : Key) → IfSome (state_in told key) (λ state. IfOk state IsLawfulEndpoints)

-- the key is watched, and nothing is known of it yet
abbrev pub is_awaited : Watched → Key → Bool
is_awaited known key = is_wanted (fate_of known key) && is_some (known_of known key)

-- a leaf has its endpoints from a key that changed
abbrev pub is_told : Told → Option Key → Bool
is_told told source = option_map_or (λ key. is_some (state_in told key)) source false

-- a key of an Endpoint resource
abbrev pub is_endpoint_kind : Kind → Bool
is_endpoint_kind Kind.Listener = false
is_endpoint_kind Kind.Route = false
is_endpoint_kind Kind.Cluster = false
is_endpoint_kind Kind.Endpoint = true

abbrev pub are_endpoints : List Key → Bool
are_endpoints keys = list_all (λ key. is_endpoint_kind key.kind) keys
