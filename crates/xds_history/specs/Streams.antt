-- Which streams are up, and what was asked on them (Envoy's xDS protocol, "Aggregated Discovery Service").
use Rattle.std.specs.Prelude.{List, [], ◌∷◌, Bool, true, false, ◌&&◌, if◌then◌else◌, Option, Some, None, is_some, option_map}
use Rattle.std.specs.List.{find}
use Rattle.xc_base.specs.declared.names.Kind.{Kind}
use Rattle.xc_base.specs.declared.names.Authority.{Authority}
use Rattle.ads_stream.specs.declared.verdict.Verdict.{Verdict}
use Rattle.call_journal.specs.declared.event.BytesHow.{BytesHow}
use Rattle.call_journal.specs.declared.event.DriverEvent.{DriverEvent}
use Rattle.call_journal.specs.declared.reply.Sent.{Sent}
use Rattle.call_journal.specs.declared.entry.What.{What}
use Rattle.call_journal.specs.declared.entry.Entry.{Entry}
use Rattle.config_assembly.specs.Orders.{Name}
use Rattle.xds_history.specs.declared.turns.Turn.{Turn}
use Rattle.xds_history.specs.declared.turns.Turn.TheVariants.{Opens, Ends, Stays}
use Rattle.xds_history.specs.Words.{first_some, same_kind, same_authority}

-- ---- up and down: what an event does to the stream of an authority

abbrev pub is_unreadable : Verdict → Bool
is_unreadable Verdict.Unreadable = true
is_unreadable _ = false

-- these bytes end a stream
abbrev pub is_broken : BytesHow → Bool
is_broken BytesHow.Compressed = true
is_broken (BytesHow.TooLong length) = true
is_broken _ = false

abbrev pub turn_if : Bool → Turn → Turn
turn_if test turn = if test then turn else Stays

-- an open one is replaced; a response that can't be read ends it
abbrev pub turn_by : Authority → DriverEvent → Verdict → Turn
turn_by a (DriverEvent.Opened b) verdict = turn_if (same_authority a b) Opens
turn_by a (DriverEvent.Lost b) verdict = turn_if (same_authority a b) Ends
turn_by a (DriverEvent.Response b payload) verdict = turn_if (same_authority a b && is_unreadable verdict) Ends
turn_by a (DriverEvent.Bytes b how) verdict = turn_if (same_authority a b && is_broken how) Ends
turn_by a _ verdict = Stays

abbrev pub turn_of : Authority → What → Turn
turn_of a (What.Driver event reply) = turn_by a event reply.verdict
turn_of a (What.Caller event reply) = Stays

abbrev pub turned : {X : Type 0} → Turn → X → Option (List X) → Option (List X)
turned Opens x before = Some (x ∷ [])
turned Ends x before = None
turned Stays x before = option_map (λ xs. x ∷ xs) before

-- the stream of an authority, where it is up: the entries from the one that opened it on
abbrev pub stream : Authority → List Entry → Option (List Entry)
stream a [] = None
stream a (e ∷ past) = turned (turn_of a e.what) e (stream a past)

abbrev pub is_up : Authority → List Entry → Bool
is_up a past = is_some (stream a past)

-- what stands on a stream before the entry that makes this turn
abbrev pub before_turn : Turn → Option (List Entry) → Option (List Entry)
before_turn Opens before = Some []
before_turn Ends before = None
before_turn Stays before = before

-- ---- what was asked

abbrev pub sent_in : What → List Sent
sent_in (What.Driver event reply) = reply.sent
sent_in (What.Caller event reply) = []

-- the names for which an entry asks an authority
abbrev pub asked_in : Authority → Kind → Entry → Option (List Name)
asked_in a kind e = option_map (λ s. s.request.names) (find (λ s. same_authority a s.authority && same_kind s.request.kind kind) (sent_in e.what))

-- the names of the last request of a kind among these entries
abbrev pub asked : Authority → Kind → List Entry → Option (List Name)
asked a kind entries = first_some (asked_in a kind) entries
