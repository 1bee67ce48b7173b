-- The requests that are due after a driver's entry (Envoy's xDS protocol, "ACK and NACK", "When a client sends a new
-- DiscoveryRequest").
use Rattle.std.specs.Prelude.{ℕ, suc, List, [], ◌∷◌, ◌++◌, map, codes, Bool, true, false, ◌&&◌, ◌||◌, not, if◌then◌else◌, Option, Some, None, Result, Ok, Err, is_some, unwrap_or, option_map}
use Rattle.std.specs.Fmt.{decimal}
use Rattle.std.specs.List.{list_all, filter_map, flat_map, range_with_len}
use Rattle.std.specs.Option.{option_map_or}
use Rattle.std.specs.Str.{bytes_eq}
use Rattle.std.specs.Cmp.Lexicographic.{pointwise}
use Rattle.xc_base.specs.declared.names.Kind.{Kind}
use Rattle.xc_base.specs.declared.names.Authority.{Authority}
use Rattle.xc_base.specs.declared.reason.Reason.{Reason}
use Rattle.xc_base.specs.Reasons.{reason_word}
use Rattle.xds_config.specs.declared.value.Value.{Value}
use Rattle.proto_discovery.specs.declared.request.Request.{Request}
use Rattle.ads_stream.specs.declared.verdict.Verdict.{Verdict}
use Rattle.call_journal.specs.declared.reply.Sent.{Sent}
use Rattle.call_journal.specs.declared.entry.Entry.{Entry}
use Rattle.config_assembly.specs.Orders.{Name}
use Rattle.xds_history.specs.Words.{same_kind, all_kinds, lives_at}
use Rattle.xds_history.specs.Setting.{Setting}
use Rattle.xds_history.specs.Streams.{turn_by, before_turn, stream, asked}
use Rattle.resource_check.specs.declared.delivery.Delivery.{Delivery}
use Rattle.xds_history.specs.Responses.{Came, answered, accepted, told_of, version, nonce_on}
use Rattle.xds_history.specs.declared.page.Watched.{Watched}

-- ---- the text of a refusal

-- a resource without a name is named by its place, from 0
abbrev pub name_text : ℕ → Option Name → Name
name_text place None = codes "resource " ++ decimal place
name_text place (Some name) = name

-- the refused resources of a list whose first has this place, each with its reason
abbrev pub refusals_from : ℕ → List Delivery → List Name
refusals_from place [] = []
refusals_from place (part ∷ parts) = with_result part.result (refusals_from (suc place) parts)
  where
    with_result : Result Value Reason → List Name → List Name
    with_result (Ok value) rest = rest
    with_result (Err reason) rest = (name_text place part.name ++ (codes ": " ++ reason_word reason)) ∷ rest

-- texts with a semicolon and a space between
abbrev pub joined : List Name → Name
joined [] = []
joined (text ∷ []) = text
joined (text ∷ more ∷ texts) = text ++ (codes "; " ++ joined (more ∷ texts))

abbrev pub error_text : List Delivery → Name
error_text parts = joined (refusals_from 0 parts)

-- ---- what is asked

-- the watched names of an authority and kind, in their order
abbrev pub watched_names : Authority → Kind → List Watched → List Name
watched_names a kind watched = filter_map (λ w. if same_kind w.key.kind kind && lives_at a w.key.home then Some w.key.name else None) watched

abbrev pub same_names : List Name → List Name → Bool
same_names = pointwise bytes_eq

-- the version of the last accepted response, up to what came
abbrev pub version_with : Setting → Came → List Entry → Authority → Kind → Name
version_with s c past a kind = option_map_or (λ t. t.version) (told_of a kind (accepted s c)) (version s a kind past)

-- the nonce of the last response that was answered on the stream, up to what came
abbrev pub nonce_with : Setting → Came → List Entry → Authority → Kind → Name
nonce_with s c before a kind = option_map_or (λ t. t.nonce) (told_of a kind (answered s c)) (nonce_on s a kind before)

abbrev pub is_nack : Verdict → Bool
is_nack (Verdict.Nack kind) = true
is_nack _ = false

abbrev pub error_with : Setting → Came → Authority → Kind → Option Name
error_with s c a kind = if is_nack c.verdict then option_map (λ t. error_text t.parts) (told_of a kind (answered s c)) else None

-- a response is answered, or other names are watched than were asked for last
abbrev pub is_due : Setting → Came → List Entry → Authority → Kind → List Name → Bool
is_due s c before a kind names = is_some (told_of a kind (answered s c)) || not (same_names names (unwrap_or (asked a kind before) []))

abbrev pub request_for : Setting → Came → List Entry → List Entry → Authority → Kind → List Name → Request
request_for s c past before a kind names = record {
  kind = kind;
  version = version_with s c past a kind;
  nonce = nonce_with s c before a kind;
  names = names;
  node = None;
  error = error_with s c a kind;
}

abbrev pub request_due : Setting → Came → List Entry → List Watched → List Entry → Authority → Kind → Option Request
request_due s c past watched before a kind =
    if is_due s c before a kind (watched_names a kind watched) then Some (request_for s c past before a kind (watched_names a kind watched)) else None

-- nothing was asked on the stream
abbrev pub is_silent : Authority → List Entry → Bool
is_silent a before = list_all (λ kind. not (is_some (asked a kind before))) all_kinds

-- the first request of a stream has the node
abbrev pub with_node : Setting → Bool → List Request → List Request
with_node s first [] = []
with_node s first (r ∷ rs) = (if first then record r { node = Some s.node } else r) ∷ rs

abbrev pub sent_to : Authority → Request → Sent
sent_to a r = record { authority = a; request = r }

-- the requests due on a stream, kind by kind
abbrev pub requests_on : Setting → Came → List Entry → List Watched → Authority → Option (List Entry) → List Sent
requests_on s c past watched a None = []
requests_on s c past watched a (Some before) =
    map (sent_to a) (with_node s (is_silent a before) (filter_map (request_due s c past watched before a) all_kinds))

abbrev pub requests_to : Setting → Came → List Entry → List Watched → ℕ → List Sent
requests_to s c past watched place =
    let a : Authority = record { 0 = place } in
    requests_on s c past watched a (before_turn (turn_by a c.event c.verdict) (stream a past))

-- the requests due, authority by authority
abbrev pub requests : Setting → Came → List Entry → List Watched → List Sent
requests s c past watched = flat_map (requests_to s c past watched) (range_with_len 0 s.authorities)
