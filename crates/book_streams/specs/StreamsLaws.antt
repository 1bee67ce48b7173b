-- Laws of what is kept of the streams.
use Rattle.std.specs.Prelude.{◌≡◌, ℕ, List, [], ◌∷◌, map, Bool, true, false, ◌&&◌, if◌then◌else◌, Option, Some, None, Contains, is_some, is_ok, unwrap_or}
use Rattle.std.specs.List.{list_all, range_with_len}
use Rattle.xc_base.specs.declared.names.Kind.{Kind}
use Rattle.xc_base.specs.declared.names.Authority.{Authority}
use Rattle.ads_stream.specs.declared.verdict.Verdict.{Verdict}
use Rattle.ads_stream.specs.declared.stream.StreamState.{StreamState}
use Rattle.ads_stream.specs.StreamSteps as step
use Rattle.call_journal.specs.declared.event.DriverEvent.{DriverEvent}
use Rattle.call_journal.specs.declared.reply.DriverReply.{DriverReply}
use Rattle.call_journal.specs.declared.reply.CallerReply.{CallerReply}
use Rattle.call_journal.specs.declared.event.CallerEvent.{CallerEvent}
use Rattle.call_journal.specs.declared.entry.What.{What}
use Rattle.call_journal.specs.declared.entry.Entry.{Entry}
use Rattle.config_assembly.specs.Orders.{Name}
use Rattle.xds_history.specs.Words.{same_authority}
use Rattle.xds_history.specs.Setting.{Setting}
use Rattle.xds_history.specs.Streams.{is_broken, turn_by, stream, asked}
use Rattle.xds_history.specs.declared.turns.Turn.{Turn}
use Rattle.xds_history.specs.declared.turns.Turn.TheVariants.{Opens, Ends, Stays}
use Rattle.xds_history.specs.Responses.{Came, answered, told_of, is_asked, verdict, parts}
use Rattle.xds_history.specs.Requests.{error_text, requests, requests_on, requests_to, same_names, sent_to, watched_names}
use Rattle.xds_history.specs.resource_check.declared.delivery.Delivery.{Delivery}
use Rattle.proto_discovery.specs.declared.response.Response.{Response}
use Rattle.xds_history.specs.declared.page.Watched.{Watched}
use Rattle.xds_history.specs.Pages.{came}
use Rattle.book_streams.specs.StreamsKept.{state_of, state_with, on_after, names_at, states_of, states_with}

-- an entry that opens a stream, ends one or leaves it, and is no answered response
abbrev pub turned_state : Turn → StreamState → StreamState
turned_state Opens state = step.opened state
turned_state Ends state = step.lost state
turned_state Stays state = state

-- nothing of an answered response is this authority's
abbrev pub BringsNothing : Setting → Came → Authority → Type 0
BringsNothing s c a = (kind : Kind) → told_of a kind (answered s c) ≡ None

abbrev pub TurnsFollow : Type 0
TurnsFollow = (s : Setting) (c : Came) (a : Authority) (past : List Entry) → BringsNothing s c a →
    state_with s c a past ≡ turned_state (turn_by a c.event c.verdict) (state_of s a past)

-- the text of a refusal, where a part is refused
abbrev pub error_in : List Delivery → Option Name
error_in ps = if list_all (λ p. is_ok p.result) ps then None else Some (error_text ps)

abbrev pub response_came : Authority → List ℕ → Verdict → List Name → Came
response_came a payload v refused = record { event = DriverEvent.Response a payload; verdict = v; refused = refused }

-- A response that can be read, of a kind. Where it was asked for, the error is the text of its refusal.
abbrev pub ResponseFollows : Type 0
ResponseFollows = (s : Setting) (a : Authority) (past : List Entry) (payload : List ℕ) (r : Response) (kind : Kind) (refused : List Name) (error : Option Name) →
    s.read payload ≡ Some r → s.kind_of r.type_url ≡ Some kind →
    (is_asked a kind past ≡ true → error ≡ error_in (parts s kind r.resources refused)) →
    (step.verdict_of (state_of s a past) kind error ≡ verdict s past (DriverEvent.Response a payload) refused)
    × (step.response_taken (state_of s a past) kind r.version r.nonce error
    ≡ state_with s (response_came a payload (verdict s past (DriverEvent.Response a payload) refused) refused) a past)

-- the requests that a stream says are due, once this came, are those of the history
abbrev pub RequestsFollow : Type 0
RequestsFollow = (s : Setting) (c : Came) (a : Authority) (past : List Entry) (watched : List Watched) →
    map (sent_to a) (step.requests_due (state_with s c a past) (names_at a watched)) ≡ requests_on s c past watched a (on_after c a past)

-- the entry of an event whose requests are those that are due
abbrev pub entry_of : ℕ → ℕ → DriverEvent → DriverReply → Entry
entry_of actor line event reply = record { actor = actor; line = line; what = What.Driver event reply }

-- once the requests have been sent, a stream stands as after the entry
abbrev pub NamesFollow : Type 0
NamesFollow = (s : Setting) (actor line : ℕ) (event : DriverEvent) (reply : DriverReply) (a : Authority) (past : List Entry) (watched : List Watched) →
    Contains (range_with_len 0 s.authorities) a.0 → reply.sent ≡ requests s (came event reply) past watched →
    step.names_told (state_with s (came event reply) a past) (names_at a watched) ≡ state_of s a (entry_of actor line event reply ∷ past)

-- an event that may change this authority's stream
abbrev pub is_about : Authority → DriverEvent → Bool
is_about a (DriverEvent.Opened b) = same_authority a b
is_about a (DriverEvent.Response b payload) = same_authority a b
is_about a (DriverEvent.Bytes b how) = same_authority a b && is_broken how
is_about a (DriverEvent.Lost b) = same_authority a b
is_about a _ = false

-- what isn't about an authority leaves its stream
abbrev pub OthersStand : Type 0
OthersStand = (s : Setting) (c : Came) (a : Authority) (past : List Entry) → is_about a c.event ≡ false → state_with s c a past ≡ state_of s a past

-- so do a moment, a report, bytes that break no stream and a sweep with all of them
abbrev pub AllStand : Type 0
AllStand = (s : Setting) (c : Came) (past : List Entry) → ((a : Authority) → is_about a c.event ≡ false) → states_with s c past ≡ states_of s past

-- and a caller's entry
abbrev pub caller_entry : ℕ → ℕ → CallerEvent → CallerReply → Entry
caller_entry actor line event reply = record { actor = actor; line = line; what = What.Caller event reply }

abbrev pub CallersChangeNothing : Type 0
CallersChangeNothing = (s : Setting) (actor line : ℕ) (event : CallerEvent) (reply : CallerReply) (past : List Entry) →
    states_of s (caller_entry actor line event reply ∷ past) ≡ states_of s past

-- a payload is a response of this kind, version and nonce, and the error is the text of its refusal where it is answered
pub record IsTold (s : Setting) (a : Authority) (past : List Entry) (payload : List ℕ) (r : Response) (kind : Kind) (version nonce : Name) (refused : List Name) (error : Option Name) : Type 0 where
  pub reads : s.read payload ≡ Some r
  pub kind_is : s.kind_of r.type_url ≡ Some kind
  pub version_is : version ≡ r.version
  pub nonce_is : nonce ≡ r.nonce
  pub error_is : is_asked a kind past ≡ true → error ≡ error_in (parts s kind r.resources refused)

-- the verdict on a loss
abbrev pub lost_if : Bool → Verdict
lost_if up = if up then Verdict.Done else Verdict.Closed

-- the kinds that were asked for stand in the state
abbrev pub AskedIsKept : Type 0
AskedIsKept = (s : Setting) (a : Authority) (past : List Entry) (kind : Kind) → is_some (step.of_kind (state_of s a past) kind).asked ≡ is_asked a kind past

-- the watched names of an authority are those that were asked for last on its stream
abbrev pub IsSettled : Authority → List Entry → List Watched → Type 0
IsSettled a past watched = (kind : Kind) (entries : List Entry) → stream a past ≡ Some entries → same_names (watched_names a kind watched) (unwrap_or (asked a kind entries) []) ≡ true

-- where nothing of an entry is an authority's and its names are those that were asked for last, nothing is sent to it, and
-- its stream stands
abbrev pub QuietStands : Type 0
QuietStands = (s : Setting) (actor line : ℕ) (event : DriverEvent) (reply : DriverReply) (a : Authority) (past : List Entry) (watched : List Watched) →
    is_about a event ≡ false → IsSettled a past watched → Contains (range_with_len 0 s.authorities) a.0 → reply.sent ≡ requests s (came event reply) past watched →
    (requests_to s (came event reply) past watched a.0 ≡ []) × (state_of s a (entry_of actor line event reply ∷ past) ≡ state_of s a past)

-- whose stream an event is about
abbrev pub authority_in : DriverEvent → Option Authority
authority_in (DriverEvent.Opened a) = Some a
authority_in (DriverEvent.Response a payload) = Some a
authority_in (DriverEvent.Bytes a how) = Some a
authority_in (DriverEvent.Lost a) = Some a
authority_in _ = None

abbrev pub came_with : DriverEvent → Verdict → List Name → Came
came_with event v refused = record { event = event; verdict = v; refused = refused }

-- after a driver's entry whose requests are those that are due the watched names are those that were asked for last
abbrev pub SettledAfter : Type 0
SettledAfter = (s : Setting) (actor line : ℕ) (event : DriverEvent) (reply : DriverReply) (a : Authority) (past : List Entry) (watched : List Watched) →
    Contains (range_with_len 0 s.authorities) a.0 → reply.sent ≡ requests s (came event reply) past watched → IsSettled a (entry_of actor line event reply ∷ past) watched
