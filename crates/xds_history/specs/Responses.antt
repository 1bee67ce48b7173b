-- Verdicts on responses, what answered ones deliver, versions and nonces (Envoy's xDS protocol, "ACK and NACK"; that the
-- valid resources of a refused response are accepted one by one is this project's own).
use Rattle.std.specs.Prelude.{List, [], ◌∷◌, ◌++◌, map, Bool, false, ◌&&◌, if◌then◌else◌, Option, Some, None, Result, is_some, is_ok, unwrap_or, option_map, option_and_then}
use Rattle.std.specs.List.{list_all, find, filter_map}
use Rattle.std.specs.Option.{option_map_or}
use Rattle.std.specs.Str.{bytes_eq}
use Rattle.xc_base.specs.declared.names.Kind.{Kind}
use Rattle.xc_base.specs.declared.names.Authority.{Authority}
use Rattle.xc_base.specs.declared.names.Key.{Key}
use Rattle.xc_base.specs.declared.reason.Reason.{Reason}
use Rattle.proto_discovery.specs.declared.any.AnyValue.{AnyValue}
use Rattle.proto_discovery.specs.declared.response.Response.{Response}
use Rattle.xds_config.specs.declared.value.Value.{Value}
use Rattle.resource_check.specs.declared.resource.Checked.{Checked}
use Rattle.check_steps.specs.declared.check_fault.Refusal.{Refusal}
use Rattle.resource_check.specs.Deliveries.{delivery_of, told_apart, refused_text, once}
use Rattle.ads_stream.specs.declared.verdict.Verdict.{Verdict}
use Rattle.call_journal.specs.declared.event.DriverEvent.{DriverEvent}
use Rattle.call_journal.specs.declared.entry.What.{What}
use Rattle.call_journal.specs.declared.entry.Entry.{Entry}
use Rattle.config_assembly.specs.Orders.{Name}
use Rattle.resource_check.specs.declared.delivery.Delivery.{Delivery}
use Rattle.xds_history.specs.declared.responses.Told.{Told}
use Rattle.xds_history.specs.Words.{among, first_some, same_kind, same_authority, lives_at}
use Rattle.xds_history.specs.Setting.{Setting}
use Rattle.xds_history.specs.Streams.{stream, is_up, asked}

-- ---- resources

-- what came to the driver, with its verdict and the pattern texts that were refused
pub record Came : Type 0 where
  pub event : DriverEvent
  pub verdict : Verdict
  pub refused : List Name

abbrev pub is_named : Name → Delivery → Bool
is_named name part = option_map_or (bytes_eq name) part.name false

-- the checks of the resources, where these pattern texts are refused
abbrev pub checks : Setting → Kind → List AnyValue → List Name → List (Result Checked Refusal)
checks s kind resources refused = map (s.check (λ text. among text refused) kind) resources

abbrev pub parts : Setting → Kind → List AnyValue → List Name → List Delivery
parts s kind resources refused = told_apart [] (map delivery_of (checks s kind resources refused))

-- ---- verdicts

abbrev pub verdict_on_parts : Kind → List Delivery → Verdict
verdict_on_parts kind ps = if list_all (λ p. is_ok p.result) ps then Verdict.Ack kind else Verdict.Nack kind

-- a kind was asked for on the stream that is up
abbrev pub is_asked : Authority → Kind → List Entry → Bool
is_asked a kind past = is_some (option_and_then (asked a kind) (stream a past))

-- a response of a type that is none of the four kinds, or of a kind that wasn't asked for, is ignored
abbrev pub verdict_on_kind : Setting → List Entry → Authority → Response → List Name → Option Kind → Verdict
verdict_on_kind s past a r refused None = Verdict.Ignored
verdict_on_kind s past a r refused (Some kind) =
    if is_asked a kind past then verdict_on_parts kind (parts s kind r.resources refused) else Verdict.Ignored

abbrev pub verdict_on_reading : Setting → List Entry → Authority → List Name → Option Response → Verdict
verdict_on_reading s past a refused None = Verdict.Unreadable
verdict_on_reading s past a refused (Some r) = verdict_on_kind s past a r refused (s.kind_of r.type_url)

-- the verdict on an event, after these entries
abbrev pub verdict : Setting → List Entry → DriverEvent → List Name → Verdict
verdict s past (DriverEvent.Response a payload) refused =
    if is_up a past then verdict_on_reading s past a refused (s.read payload) else Verdict.Closed
verdict s past (DriverEvent.Lost a) refused = if is_up a past then Verdict.Done else Verdict.Closed
verdict s past _ refused = Verdict.Done

-- ---- answered responses

-- the kind in which a response is answered, and the one in which it is accepted
abbrev pub answered_kind : Verdict → Option Kind
answered_kind (Verdict.Ack kind) = Some kind
answered_kind (Verdict.Nack kind) = Some kind
answered_kind _ = None

abbrev pub accepted_kind : Verdict → Option Kind
accepted_kind (Verdict.Ack kind) = Some kind
accepted_kind _ = None

abbrev pub told_by : Setting → Authority → List Name → Option Response → Option Kind → Option Told
told_by s a refused (Some r) (Some kind) =
    Some record { authority = a; kind = kind; version = r.version; nonce = r.nonce; resources = r.resources; parts = parts s kind r.resources refused }
told_by s a refused _ _ = None

abbrev pub told_in : Setting → List Name → DriverEvent → Option Kind → Option Told
told_in s refused (DriverEvent.Response a payload) kind = told_by s a refused (s.read payload) kind
told_in s refused _ kind = None

-- the answered response that came, and the accepted one
abbrev pub answered : Setting → Came → Option Told
answered s c = told_in s c.refused c.event (answered_kind c.verdict)

abbrev pub accepted : Setting → Came → Option Told
accepted s c = told_in s c.refused c.event (accepted_kind c.verdict)

abbrev pub came_in : What → Option Came
came_in (What.Driver event reply) = Some record { event = event; verdict = reply.verdict; refused = reply.refused }
came_in (What.Caller event reply) = None

-- what an answered response delivers for a key: the first resource of its name
abbrev pub delivers : Told → Key → Option (Result Value Reason)
delivers t k =
    if same_kind t.kind k.kind && lives_at t.authority k.home then option_map (λ p. p.result) (find (is_named k.name) t.parts)
    else None

-- ---- pattern texts

-- the pattern texts at which the checks of an answered response stop where these are refused, each once
abbrev pub stopped_at : Setting → List Name → Option Told → List Name
stopped_at s refused None = []
stopped_at s refused (Some t) = once [] (filter_map refused_text (checks s t.kind t.resources refused))

-- the pattern texts that an entry tells as refused
abbrev pub refused_in : What → List Name
refused_in (What.Driver event reply) = reply.refused
refused_in (What.Caller event reply) = []

-- the pattern texts that a history tells as refused, in the order in which they were: those of the oldest entry first
abbrev pub refused_texts : List Entry → List Name
refused_texts [] = []
refused_texts (e ∷ past) = refused_texts past ++ refused_in e.what

-- ---- versions and nonces

abbrev pub is_of : Authority → Kind → Told → Bool
is_of a kind t = same_authority a t.authority && same_kind t.kind kind

abbrev pub told_of : Authority → Kind → Option Told → Option Told
told_of a kind found = option_and_then (λ t. if is_of a kind t then Some t else None) found

abbrev pub accepted_version : Setting → Authority → Kind → What → Option Name
accepted_version s a kind what = option_map (λ t. t.version) (told_of a kind (option_and_then (accepted s) (came_in what)))

-- the version of the last accepted response, else empty
abbrev pub version : Setting → Authority → Kind → List Entry → Name
version s a kind past = unwrap_or (first_some (λ e. accepted_version s a kind e.what) past) []

abbrev pub answered_nonce : Setting → Authority → Kind → What → Option Name
answered_nonce s a kind what = option_map (λ t. t.nonce) (told_of a kind (option_and_then (answered s) (came_in what)))

-- the nonce of the last answered response among the entries of a stream, else empty
abbrev pub nonce_on : Setting → Authority → Kind → List Entry → Name
nonce_on s a kind entries = unwrap_or (first_some (λ e. answered_nonce s a kind e.what) entries) []

-- the nonce of the last answered response on the stream that is up, else empty
abbrev pub nonce : Setting → Authority → Kind → List Entry → Name
nonce s a kind past = option_map_or (nonce_on s a kind) (stream a past) []
