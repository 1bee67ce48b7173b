-- Which keys are watched, and the fate of a key (Envoy's xDS protocol, "Knowing When a Requested Resource Does Not Exist";
-- that an invalid resource leaves the value is gRFC A27's).
use Rattle.std.specs.Prelude.{◌-◌, nat_le, List, [], ◌∷◌, map, Bool, true, false, ◌&&◌, not, if◌then◌else◌, Option, Some, None, Result, Ok, Err, is_some, option_map, option_and_then}
use Rattle.std.specs.List.{list_all, cons_option}
use Rattle.std.specs.Option.{option_or, option_map_or}
use Rattle.xc_base.specs.declared.names.Kind.{Kind}
use Rattle.xc_base.specs.declared.names.Authority.{Authority}
use Rattle.xc_base.specs.declared.names.Home.{Home}
use Rattle.xc_base.specs.declared.names.Key.{Key}
use Rattle.xc_base.specs.declared.names.Time.{Time}
use Rattle.xc_base.specs.declared.reason.Reason.{Reason}
use Rattle.xds_config.specs.declared.value.Value.{Value}
use Rattle.xds_cache.specs.KeptFates.{fate_at}
use Rattle.xds_cache.specs.declared.fate.Known.{Known}
use Rattle.config_assembly.specs.Reach.{is_wanted}
use Rattle.call_journal.specs.declared.event.DriverEvent.{DriverEvent}
use Rattle.call_journal.specs.declared.entry.Entry.{Entry}
use Rattle.xds_history.specs.Words.{among, same_kind, lives_at}
use Rattle.xds_history.specs.Setting.{Setting}
use Rattle.xds_history.specs.declared.turns.Turn.{Turn}
use Rattle.xds_history.specs.declared.turns.Turn.TheVariants.{Opens}
use Rattle.xds_history.specs.Streams.{turn_of, is_up, asked_in}
use Rattle.resource_check.specs.declared.delivery.Delivery.{Delivery}
use Rattle.xds_history.specs.declared.responses.Told.{Told}
use Rattle.xds_history.specs.Responses.{Came, answered, delivers, is_named}
use Rattle.xds_history.specs.declared.page.Page.{Page}
use Rattle.xds_history.specs.declared.page.Watched.{Watched}
use Rattle.xds_history.specs.declared.page.Mark.{Mark}
use Rattle.xds_history.specs.declared.page.Mark.TheVariants.{Valid, Invalid, Gone}
use Rattle.xds_history.specs.Page.{watched_now, find_watched}

-- ---- the fate of a watched key, by what came since it is watched

-- the value of the last valid resource, where no deletion or expiry came after it
abbrev pub last_value : List Mark → Option Value
last_value [] = None
last_value (Valid v ∷ marks) = Some v
last_value (Invalid reason ∷ marks) = last_value marks
last_value (Gone ∷ marks) = None

-- the reason of an invalid resource that came last of all
abbrev pub last_reason : List Mark → Option Reason
last_reason (Invalid reason ∷ marks) = Some reason
last_reason _ = None

-- whether it was deleted or expired
abbrev pub was_gone : List Mark → Bool
was_gone [] = false
was_gone (Gone ∷ marks) = true
was_gone (Valid v ∷ marks) = was_gone marks
was_gone (Invalid reason ∷ marks) = was_gone marks

abbrev pub fate_by : Option Value → Option Reason → Bool → Known
fate_by (Some v) reason was = Known.Value v
fate_by None (Some reason) was = Known.Invalid reason
fate_by None None true = Known.Absent
fate_by None None false = Known.Wanted

-- its value, else the reason of the last one, else absent, else wanted
abbrev pub judged : List Mark → Known
judged marks = fate_by (last_value marks) (last_reason marks) (was_gone marks)

abbrev pub has_value : Known → Bool
has_value (Known.Value v) = true
has_value _ = false

-- ---- deletions

-- only Listener and Cluster responses delete
abbrev pub deletes : Kind → Bool
deletes Kind.Listener = true
deletes Kind.Cluster = true
deletes _ = false

abbrev pub has_another_name : Key → Delivery → Bool
has_another_name key part = is_some part.name && not (is_named key.name part)

-- no resource is nameless, and none has the key's name
abbrev pub lacks : Told → Key → Bool
lacks t key = list_all (has_another_name key) t.parts

-- an answered response of the key's kind and home lacks the key, which has a value
abbrev pub is_deleted : Told → Watched → Bool
is_deleted t w = deletes t.kind && same_kind t.kind w.key.kind && lives_at t.authority w.key.home && lacks t w.key && has_value (judged w.marks)

-- ---- expiries

abbrev pub is_opening : Turn → Bool
is_opening Opens = true
is_opening _ = false

abbrev pub is_asked_in : Authority → Key → Entry → Bool
is_asked_in a key e = option_map_or (among key.name) (asked_in a key.kind e) false

-- when the key was asked for first, since it is watched and on the stream that is up
abbrev pub first_asked : List Page → Authority → Key → Option Time
first_asked [] a key = None
first_asked (p ∷ ps) a key =
    if is_some (find_watched key p.watched)
    then option_or (if is_opening (turn_of a p.entry.what) then None else first_asked ps a key) (if is_asked_in a key p.entry then Some p.now else None)
    else None

-- 15,000 ms from then on
abbrev pub is_over : Time → Option Time → Bool
is_over now None = false
is_over now (Some first) = nat_le 15000 (now.0 - first.0)

-- the key is wanted, and was first asked for long ago on the stream that is up
abbrev pub is_expired : List Entry → List Page → Time → Authority → Watched → Bool
is_expired past ps now a w = is_wanted (judged w.marks) && is_up a past && is_over now (first_asked ps a w.key)

-- ---- what an entry brings for a watched key

abbrev pub mark_of : Result Value Reason → Mark
mark_of (Ok v) = Valid v
mark_of (Err reason) = Invalid reason

abbrev pub mark_told : Watched → Told → Option Mark
mark_told w t = option_or (option_map mark_of (delivers t w.key)) (if is_deleted t w then Some Gone else None)

abbrev pub mark_timed : List Entry → List Page → Time → Watched → DriverEvent → Home → Option Mark
mark_timed past ps now w (DriverEvent.Moment time) (Home.At a) = if is_expired past ps now a w then Some Gone else None
mark_timed past ps now w _ _ = None

abbrev pub mark : Setting → Came → List Entry → List Page → Time → Watched → Option Mark
mark s c past ps now w = option_or (option_and_then (mark_told w) (answered s c)) (mark_timed past ps now w c.event w.key.home)

abbrev pub with_mark : Setting → Came → List Entry → List Page → Time → Watched → Watched
with_mark s c past ps now w = record w { marks = cons_option (mark s c past ps now w) w.marks }

-- the watched keys, each with what came up to this entry
abbrev pub marked : Setting → Came → List Entry → List Page → Time → List Watched
marked s c past ps now = map (with_mark s c past ps now) (watched_now ps)

-- ---- the fate of any key

-- invalid where it has no home, wanted where it isn't watched, else by what came
abbrev pub fate_in : List Watched → Key → Known
fate_in watched key = fate_at key.home (option_map (λ w. judged w.marks) (find_watched key watched))

-- ---- watching

abbrev pub watch_key : List Watched → Key → Watched
watch_key before key = record { key = key; marks = option_map_or (λ w. w.marks) (find_watched key before) [] }

-- these keys are watched; one that stays keeps what came, and one that is new begins with nothing
abbrev pub watch : List Watched → List Key → List Watched
watch before keys = map (watch_key before) keys
