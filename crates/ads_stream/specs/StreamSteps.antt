-- A stream, step by step (Envoy's xDS protocol, "ACK and NACK" and "Aggregated Discovery Service").
use Rattle.std.specs.Prelude.{◌≡◌, ◌↔◌, ◌==◌, ◌||◌, List, [], ◌∷◌, ◌++◌, ℕ, length, Bool, true, false, not, Option, Some, None, is_some, if◌then◌else◌}
use Rattle.std.specs.Cmp.Lexicographic.{pointwise}
use Rattle.proto_discovery.specs.declared.request.Request.{Request}
use Rattle.xc_base.specs.declared.call.Node.{Node}
use Rattle.xc_base.specs.declared.names.Kind.{Kind}
use Rattle.xc_base.specs.declared.names.Kind.TheVariants.{Listener, Route, Cluster, Endpoint}
use Rattle.ads_stream.specs.declared.request_names.Names.{Names}
use Rattle.ads_stream.specs.declared.stream.StreamState.{StreamState}
use Rattle.ads_stream.specs.declared.subscription.Answer.{Answer}
use Rattle.ads_stream.specs.declared.subscription.Subscription.{Subscription}
use Rattle.ads_stream.specs.declared.verdict.Verdict.{Verdict}
use Rattle.ads_stream.specs.declared.verdict.Verdict.TheVariants.{Closed, Ack, Nack, Ignored}

abbrev pub Text : Type 0
Text = List ℕ

-- ---- one kind

-- nothing was asked and nothing came
abbrev pub fresh : Subscription
fresh = record { version = []; nonce = []; asked = None; answer = None }

-- the version outlives a stream, all else doesn't
abbrev pub reopened : Subscription → Subscription
reopened s = record { version = s.version; nonce = []; asked = None; answer = None }

abbrev pub verdict_by : Kind → Option Text → Verdict
verdict_by kind None = Ack kind
verdict_by kind (Some error) = Nack kind

-- what becomes of a response on a stream that is up
abbrev pub verdict_on : Subscription → Kind → Option Text → Verdict
verdict_on s kind error = if is_some s.asked then verdict_by kind error else Ignored

-- a refused response leaves the version
abbrev pub version_after : Text → Text → Option Text → Text
version_after old version None = version
version_after old version (Some error) = old

abbrev pub with_response : Subscription → Text → Text → Option Text → Subscription
with_response s version nonce error = record { version = version_after s.version version error; nonce = nonce; asked = s.asked; answer = Some (record { error = error }) }

abbrev pub responded : Subscription → Text → Text → Option Text → Subscription
responded s version nonce error = if is_some s.asked then with_response s version nonce error else s

abbrev pub are_same : List Text → List Text → Bool
are_same names others = pointwise (pointwise ◌==◌) names others

-- that test finds what is equal
abbrev pub TellsNamesApart : Type 0
TellsNamesApart = (names others : List Text) → (are_same names others ≡ true) ↔ (names ≡ others)

-- the names aren't those of the last request; before any request those count as none
abbrev pub differs : Option (List Text) → List Text → Bool
differs None names = not (length names == 0)
differs (Some asked) names = not (are_same asked names)

-- a response is to be answered, or the names differ
abbrev pub is_due : Subscription → List Text → Bool
is_due s names = is_some s.answer || differs s.asked names

abbrev pub error_in : Option Answer → Option Text
error_in None = None
error_in (Some answer) = answer.error

abbrev pub error_of : Subscription → Option Text
error_of s = error_in s.answer

abbrev pub request_of : Subscription → Kind → List Text → Option Node → Request
request_of s kind names node = record { kind = kind; version = s.version; nonce = s.nonce; names = names; node = node; error = error_of s }

abbrev pub names_after_request : Subscription → List Text → Option (List Text)
names_after_request s names = if is_due s names then Some names else s.asked

-- once the request that is due has been sent
abbrev pub after_request : Subscription → List Text → Subscription
after_request s names = record { version = s.version; nonce = s.nonce; asked = names_after_request s names; answer = None }

-- ---- the stream

abbrev pub of_kind : StreamState → Kind → Subscription
of_kind state Listener = state.listener
of_kind state Route = state.route
of_kind state Cluster = state.cluster
of_kind state Endpoint = state.endpoint

abbrev pub with_kind : StreamState → Kind → Subscription → StreamState
with_kind state Listener s = record state { listener = s }
with_kind state Route s = record state { route = s }
with_kind state Cluster s = record state { cluster = s }
with_kind state Endpoint s = record state { endpoint = s }

abbrev pub names_of : Names → Kind → List Text
names_of names Listener = names.listener
names_of names Route = names.route
names_of names Cluster = names.cluster
names_of names Endpoint = names.endpoint

abbrev pub unopened : Node → StreamState
unopened node = record { node = node; is_up = false; is_greeted = false; listener = fresh; route = fresh; cluster = fresh; endpoint = fresh }

abbrev pub restarted : StreamState → Bool → StreamState
restarted state up = record {
  node = state.node;
  is_up = up;
  is_greeted = false;
  listener = reopened state.listener;
  route = reopened state.route;
  cluster = reopened state.cluster;
  endpoint = reopened state.endpoint;
}

abbrev pub opened : StreamState → StreamState
opened state = restarted state true

abbrev pub lost : StreamState → StreamState
lost state = restarted state false

abbrev pub verdict_of : StreamState → Kind → Option Text → Verdict
verdict_of state kind error = if state.is_up then verdict_on (of_kind state kind) kind error else Closed

abbrev pub response_taken : StreamState → Kind → Text → Text → Option Text → StreamState
response_taken state kind version nonce error =
    if state.is_up then with_kind state kind (responded (of_kind state kind) version nonce error) else state

-- the node, on the first request of the stream
abbrev pub greeting : StreamState → List Request → Option Node
greeting state before = if state.is_greeted || not (length before == 0) then None else Some state.node

-- the request of this kind after those before it, where one is due
abbrev pub with_request : StreamState → Kind → List Text → List Request → List Request
with_request state kind names before =
    if is_due (of_kind state kind) names then before ++ request_of (of_kind state kind) kind names (greeting state before) ∷ [] else before

-- the requests that are due, in the order of the kinds
abbrev pub requests_on : StreamState → Names → List Request
requests_on state names =
    with_request state Endpoint names.endpoint (with_request state Cluster names.cluster (with_request state Route names.route (with_request state Listener names.listener [])))

abbrev pub requests_due : StreamState → Names → List Request
requests_due state names = if state.is_up then requests_on state names else []

-- once the requests for these names have been sent
abbrev pub state_after_requests : StreamState → Names → Bool → StreamState
state_after_requests state names greeted = record {
  node = state.node;
  is_up = state.is_up;
  is_greeted = greeted;
  listener = after_request state.listener names.listener;
  route = after_request state.route names.route;
  cluster = after_request state.cluster names.cluster;
  endpoint = after_request state.endpoint names.endpoint;
}

-- once those that are due have been sent
abbrev pub names_sent : StreamState → Names → StreamState
names_sent state names = state_after_requests state names (state.is_greeted || not (length (requests_on state names) == 0))

abbrev pub names_told : StreamState → Names → StreamState
names_told state names = if state.is_up then names_sent state names else state

-- on a stream that is up no request of another kind is due by these names
abbrev pub IsSettledBut : StreamState → Names → Kind → Type 0
IsSettledBut state names kind = state.is_up ≡ true → (other : Kind) → (other ≡ kind → ⊥) → is_due (of_kind state other) (names_of names other) ≡ false
