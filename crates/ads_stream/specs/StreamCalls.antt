-- What every list of calls makes of a stream (Envoy's xDS protocol, "ACK and NACK"): the verdicts, the versions and
-- nonces, and the requests that are due. The newest call stands first.
use Rattle.std.specs.Prelude.{◌≡◌, ◌==◌, ◌||◌, List, [], ◌∷◌, length, Bool, true, false, not, Option, Some, None, unwrap_or, if◌then◌else◌, ⊤}
use Rattle.std.specs.Option.{option_or}
use Rattle.proto_discovery.specs.declared.request.Request.{Request}
use Rattle.xc_base.specs.declared.call.Node.{Node}
use Rattle.xc_base.specs.declared.names.Kind.{Kind}
use Rattle.xc_base.specs.declared.names.Kind.TheVariants.{Listener, Route, Cluster, Endpoint}
use Rattle.ads_stream.specs.declared.request_names.Names.{Names}
use Rattle.ads_stream.specs.declared.stream.StreamState.{StreamState}
use Rattle.ads_stream.specs.declared.subscription.Answer.{Answer}
use Rattle.ads_stream.specs.declared.subscription.Subscription.{Subscription}
use Rattle.ads_stream.specs.declared.verdict.Verdict.{Verdict}
use Rattle.ads_stream.specs.declared.verdict.Verdict.TheVariants.{Done, Closed, Ack, Nack, Ignored, Unreadable}
use Rattle.ads_stream.specs.StreamSteps as step
use Rattle.ads_stream.specs.StreamSteps.{Text}

-- a call that had memory, with what it answered; an `answer` is a `names` here, since it makes the same step
pub data Event : Type 0 where
  opened : Event
  lost : Bool → Event
  response : Kind → Text → Text → Option Text → Verdict → Event
  names : Names → List Request → Event

-- what the call's own contract says
abbrev pub Step : StreamState → Event → StreamState → Type 0
Step old opened new = new ≡ step.opened old
Step old (lost was_up) new = (was_up ≡ old.is_up) × (new ≡ step.lost old)
Step old (response kind version nonce error verdict) new = (verdict ≡ step.verdict_of old kind error) × (new ≡ step.response_taken old kind version nonce error)
Step old (names watched requests) new = (requests ≡ step.requests_due old watched) × (new ≡ step.names_told old watched)

-- the stream stands so after these calls
abbrev pub After : Node → List Event → StreamState → Type 0
After node [] state = state ≡ step.unopened node
After node (event ∷ past) state = (before : StreamState) × After node past before × Step before event state

-- ---- what the calls tell

-- the last opened or lost was an opened
abbrev pub is_up : List Event → Bool
is_up [] = false
is_up (opened ∷ past) = true
is_up (lost was_up ∷ past) = false
is_up (response kind version nonce error verdict ∷ past) = is_up past
is_up (names watched requests ∷ past) = is_up past

-- the calls since the last opened or lost
abbrev pub on_stream : List Event → List Event
on_stream [] = []
on_stream (opened ∷ past) = []
on_stream (lost was_up ∷ past) = []
on_stream (response kind version nonce error verdict ∷ past) = response kind version nonce error verdict ∷ on_stream past
on_stream (names watched requests ∷ past) = names watched requests ∷ on_stream past

-- what the newest call tells that tells anything
abbrev pub newest : {X : Type 0} → (Event → Option X) → List Event → Option X
newest tells [] = None
newest tells (event ∷ past) = option_or (tells event) (newest tells past)

abbrev pub is_kind : Kind → Kind → Bool
is_kind Listener Listener = true
is_kind Listener Route = false
is_kind Listener Cluster = false
is_kind Listener Endpoint = false
is_kind Route Listener = false
is_kind Route Route = true
is_kind Route Cluster = false
is_kind Route Endpoint = false
is_kind Cluster Listener = false
is_kind Cluster Route = false
is_kind Cluster Cluster = true
is_kind Cluster Endpoint = false
is_kind Endpoint Listener = false
is_kind Endpoint Route = false
is_kind Endpoint Cluster = false
is_kind Endpoint Endpoint = true

abbrev pub is_ack : Kind → Verdict → Bool
is_ack kind Done = false
is_ack kind Closed = false
is_ack kind (Ack other) = is_kind kind other
is_ack kind (Nack other) = false
is_ack kind Ignored = false
is_ack kind Unreadable = false

abbrev pub is_nack : Kind → Verdict → Bool
is_nack kind Done = false
is_nack kind Closed = false
is_nack kind (Ack other) = false
is_nack kind (Nack other) = is_kind kind other
is_nack kind Ignored = false
is_nack kind Unreadable = false

-- the version of an accepted response of the kind
abbrev pub accepted_version : Kind → Event → Option Text
accepted_version kind opened = None
accepted_version kind (lost was_up) = None
accepted_version kind (response other version nonce error verdict) = if is_ack kind verdict then Some version else None
accepted_version kind (names watched requests) = None

-- the nonce of an answered response of the kind
abbrev pub answered_nonce : Kind → Event → Option Text
answered_nonce kind opened = None
answered_nonce kind (lost was_up) = None
answered_nonce kind (response other version nonce error verdict) = if is_ack kind verdict || is_nack kind verdict then Some nonce else None
answered_nonce kind (names watched requests) = None

-- the names of the request of the kind among these
abbrev pub names_in : Kind → List Request → Option (List Text)
names_in kind [] = None
names_in kind (request ∷ requests) = if is_kind kind request.kind then Some request.names else names_in kind requests

-- the names of a request of the kind
abbrev pub sent_names : Kind → Event → Option (List Text)
sent_names kind opened = None
sent_names kind (lost was_up) = None
sent_names kind (response other version nonce error verdict) = None
sent_names kind (names watched requests) = names_in kind requests

-- the version of the last accepted response of the kind, or empty
abbrev pub version : Kind → List Event → Text
version kind events = unwrap_or (newest (accepted_version kind) events) []

-- the nonce of the last answered response of the kind on this stream, or empty
abbrev pub nonce : Kind → List Event → Text
nonce kind events = unwrap_or (newest (answered_nonce kind) (on_stream events)) []

-- the names of the last request of the kind on this stream
abbrev pub asked : Kind → List Event → Option (List Text)
asked kind events = newest (sent_names kind) (on_stream events)

-- what is answered to a response of the kind
abbrev pub answer_to : Kind → Verdict → Option Text → Option Answer
answer_to kind verdict error = if is_ack kind verdict || is_nack kind verdict then Some (record { error = error }) else None

-- what is answered to the last response of the kind that was answered since names were told
abbrev pub answer : Kind → List Event → Option Answer
answer kind [] = None
answer kind (opened ∷ past) = None
answer kind (lost was_up ∷ past) = None
answer kind (response other version nonce error verdict ∷ past) = option_or (answer_to kind verdict error) (answer kind past)
answer kind (names watched requests ∷ past) = None

-- a request was sent on this stream
abbrev pub is_greeted : List Event → Bool
is_greeted [] = false
is_greeted (opened ∷ past) = false
is_greeted (lost was_up ∷ past) = false
is_greeted (response kind version nonce error verdict ∷ past) = is_greeted past
is_greeted (names watched requests ∷ past) = is_greeted past || not (length requests == 0)

abbrev pub subscription : Kind → List Event → Subscription
subscription kind events = record { version = version kind events; nonce = nonce kind events; asked = asked kind events; answer = answer kind events }

-- where the stream stands by these calls
abbrev pub state_by : Node → List Event → StreamState
state_by node events = record {
  node = node;
  is_up = is_up events;
  is_greeted = is_greeted events;
  listener = subscription Listener events;
  route = subscription Route events;
  cluster = subscription Cluster events;
  endpoint = subscription Endpoint events;
}

-- ---- the law

-- the call answered what the calls before it ask for
abbrev pub IsAnswered : Node → List Event → Event → Type 0
IsAnswered node past opened = ⊤
IsAnswered node past (lost was_up) = was_up ≡ is_up past
IsAnswered node past (response kind version nonce error verdict) = verdict ≡ step.verdict_of (state_by node past) kind error
IsAnswered node past (names watched requests) = requests ≡ step.requests_due (state_by node past) watched

abbrev pub AreAnswered : Node → List Event → Type 0
AreAnswered node [] = ⊤
AreAnswered node (event ∷ past) = IsAnswered node past event × AreAnswered node past

pub record FollowCalls (node : Node) (events : List Event) (state : StreamState) : Type 0 where
  pub answers : AreAnswered node events
  pub stands : state ≡ state_by node events
