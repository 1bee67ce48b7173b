-- What is kept of the streams, and where they stand after a history, and between what came and the requests that are due by it.
use Rattle.std.specs.Prelude.{ℕ, List, [], map, Bool, false, ◌&&◌, if◌then◌else◌, not, Option, Some, None, is_some, option_map, option_and_then}
use Rattle.std.specs.List.{filter_map, range_with_len}
use Rattle.std.specs.Option.{option_map_or}
use Rattle.xc_base.specs.declared.names.Kind.{Kind}
use Rattle.xc_base.specs.declared.names.Authority.{Authority}
use Rattle.ads_stream.specs.declared.request_names.Names.{Names}
use Rattle.ads_stream.specs.declared.stream.StreamState.{StreamState}
use Rattle.ads_stream.specs.declared.subscription.Answer.{Answer}
use Rattle.ads_stream.specs.declared.subscription.Subscription.{Subscription}
use Rattle.call_journal.specs.declared.entry.Entry.{Entry}
use Rattle.xc_base.specs.declared.names.Key.{Key}
use Rattle.config_assembly.specs.Orders.{Name}
use Rattle.xds_history.specs.Words.{same_kind, lives_at}
use Rattle.xds_history.specs.Setting.{Setting}
use Rattle.xds_history.specs.Streams.{turn_by, before_turn, stream, asked}
use Rattle.xds_history.specs.Responses.{Came, answered, told_of, version, nonce_on}
use Rattle.xds_history.specs.Requests.{watched_names, version_with, nonce_with, error_with, is_silent}
use Rattle.xds_history.specs.declared.page.Watched.{Watched}

-- the states of all streams, and the keys that they were told last
pub record StreamsKept : Type 0 where
  pub states : List StreamState
  pub told : List Key

abbrev pub place_of : ℕ → Authority
place_of n = record { 0 = n }

-- ---- after a history

-- what is known of a kind, where these are the entries of the stream
abbrev pub subscription_on : Setting → Authority → List Entry → Option (List Entry) → Kind → Subscription
subscription_on s a past on kind = record {
  version = version s a kind past;
  nonce = option_map_or (nonce_on s a kind) on [];
  asked = option_and_then (asked a kind) on;
  answer = None;
}

abbrev pub is_greeted_on : Authority → Option (List Entry) → Bool
is_greeted_on a on = option_map_or (λ entries. not (is_silent a entries)) on false

abbrev pub state_by : Setting → Authority → Option (List Entry) → (Kind → Subscription) → StreamState
state_by s a on known = record {
  node = s.node;
  is_up = is_some on;
  is_greeted = is_greeted_on a on;
  listener = known Kind.Listener;
  route = known Kind.Route;
  cluster = known Kind.Cluster;
  endpoint = known Kind.Endpoint;
}

abbrev pub state_on : Setting → Authority → List Entry → Option (List Entry) → StreamState
state_on s a past on = state_by s a on (subscription_on s a past on)

abbrev pub state_of : Setting → Authority → List Entry → StreamState
state_of s a past = state_on s a past (stream a past)

-- ---- once this came

abbrev pub answer_with : Setting → Came → Authority → Kind → Option Answer
answer_with s c a kind = option_map (λ t. record { error = error_with s c a kind }) (told_of a kind (answered s c))

-- (on a stream that is up)
abbrev pub answer_on : Setting → Came → Authority → Option (List Entry) → Kind → Option Answer
answer_on s c a on kind = option_and_then (λ before. answer_with s c a kind) on

abbrev pub subscription_with : Setting → Came → Authority → List Entry → Option (List Entry) → Kind → Subscription
subscription_with s c a past on kind = record {
  version = version_with s c past a kind;
  nonce = option_map_or (λ before. nonce_with s c before a kind) on [];
  asked = option_and_then (asked a kind) on;
  answer = answer_on s c a on kind;
}

abbrev pub on_after : Came → Authority → List Entry → Option (List Entry)
on_after c a past = before_turn (turn_by a c.event c.verdict) (stream a past)

abbrev pub state_with_on : Setting → Came → Authority → List Entry → Option (List Entry) → StreamState
state_with_on s c a past on = state_by s a on (subscription_with s c a past on)

abbrev pub state_with : Setting → Came → Authority → List Entry → StreamState
state_with s c a past = state_with_on s c a past (on_after c a past)

abbrev pub names_at : Authority → List Watched → Names
names_at a watched = record {
  listener = watched_names a Kind.Listener watched;
  route = watched_names a Kind.Route watched;
  cluster = watched_names a Kind.Cluster watched;
  endpoint = watched_names a Kind.Endpoint watched;
}

-- ---- the names of keys

-- a key is of this kind and lives at this authority
abbrev pub is_asked_of : Authority → Kind → Key → Bool
is_asked_of a kind key = same_kind key.kind kind && lives_at a key.home

-- the names of the keys of an authority and kind, in their order
abbrev pub key_names : Authority → Kind → List Key → List Name
key_names a kind keys = filter_map (λ key. if is_asked_of a kind key then Some key.name else None) keys

abbrev pub names_among : List Key → Authority → Names
names_among keys a = record {
  listener = key_names a Kind.Listener keys;
  route = key_names a Kind.Route keys;
  cluster = key_names a Kind.Cluster keys;
  endpoint = key_names a Kind.Endpoint keys;
}

abbrev pub watched_keys : List Watched → List Key
watched_keys watched = map (λ w. w.key) watched

-- ---- all of them

abbrev pub states_of : Setting → List Entry → List StreamState
states_of s past = map (λ place. state_of s (place_of place) past) (range_with_len 0 s.authorities)

abbrev pub states_with : Setting → Came → List Entry → List StreamState
states_with s c past = map (λ place. state_with s c (place_of place) past) (range_with_len 0 s.authorities)
