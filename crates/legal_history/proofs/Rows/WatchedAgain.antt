-- Watched again: written by tools/history_rows.py from examples/watched_again_waits_anew.session.
-- It is to catch: what came before a key was watched again and counts.
use Rattle.std.proofs.Common.{◌≡◌, ◌≤◌, refl, ℕ, zero, suc, List, [], ◌∷◌, true, Some, None, Ok, Err, codes, arith}
use Rattle.std.proofs.lemmas.List.Elements.{All-from_recursion}
use Rattle.xc_base.specs.declared.names.Kind.{Kind}
use Rattle.xc_base.specs.declared.names.Key.{Key}
use Rattle.xc_base.specs.declared.reason.Reason.{Reason}
use Rattle.xds_config.specs.declared.value.Value.{Value}
use Rattle.xds_config.specs.declared.listener_values.RoutesFrom.{RoutesFrom}
use Rattle.xds_config.specs.declared.route_values.RouteValue.{RouteValue}
use Rattle.xds_config.specs.declared.route_values.PathTest.{PathTest}
use Rattle.xds_config.specs.declared.route_values.Action.{Action}
use Rattle.aggregate_expand.specs.Leaves.{goes_on, ends, leaves_within}
use Rattle.xds_history.specs.cluster_tree.declared.snapshot.Snapshot.{Snapshot}
use Rattle.ads_stream.specs.declared.verdict.Verdict.{Verdict}
use Rattle.xds_history.specs.call_journal.declared.event.BytesHow.{BytesHow}
use Rattle.xds_history.specs.call_journal.declared.event.DriverEvent.{DriverEvent}
use Rattle.xds_history.specs.call_journal.declared.entry.Entry.{Entry}
use Rattle.grpc_framing.specs.Cut.{cut, cut_within, first_frame}
use Rattle.grpc_framing.specs.Framing.{fault_at}
use Rattle.session_lines.specs.declared.session.DriverLine.{DriverLine}
use Rattle.session_lines.specs.declared.session.Work.{Work}
use Rattle.session_lines.specs.declared.session.Line.{Line}
use Rattle.session_script.specs.Plan.{driver_list, lines_by, entries_by, ArePlayed, all, AreListed}
use Rattle.xds_history.specs.config_assembly.Orders.{Name}
use Rattle.xds_history.specs.Setting.{Setting}
use Rattle.xds_history.specs.Right.{shown}
use Rattle.legal_history.specs.Legal.{AreOpen, AreStarted, EndsInSweep, is_read}
use Rattle.legal_history.proofs.Rows.{a_node, response, setting_with, key_from, driven, on_line, replayed, as_made, snapshots, Step, steps, AreNumbered, at_most}

abbrev text0 : Name
text0 = codes "svc"

abbrev text1 : Name
text1 = codes "a"

abbrev text2 : Name
text2 = codes "1"

abbrev text3 : Name
text3 = codes "n1"

abbrev text4 : Name
text4 = codes "h"

abbrev text5 : Name
text5 = codes "*"

abbrev text6 : Name
text6 = codes "/"

abbrev text7 : Name
text7 = codes "r"

abbrev routes8 : RouteValue
routes8 = (record { name = text7; hosts = ((record { name = text4; domains = (text5 ∷ []); routes = ((record { place = 0; path = (PathTest.Prefix text6 true); headers = ([]); fraction = None; action = (Action.To ((record { cluster = text1; weight = 1 }) ∷ [])) }) ∷ []) }) ∷ []) })

abbrev text9 : Name
text9 = codes "b"

abbrev text10 : Name
text10 = codes "2"

abbrev text11 : Name
text11 = codes "n2"

abbrev routes12 : RouteValue
routes12 = (record { name = text7; hosts = ((record { name = text4; domains = (text5 ∷ []); routes = ((record { place = 0; path = (PathTest.Prefix text6 true); headers = ([]); fraction = None; action = (Action.To ((record { cluster = text9; weight = 1 }) ∷ [])) }) ∷ []) }) ∷ []) })

abbrev text13 : Name
text13 = codes "3"

abbrev text14 : Name
text14 = codes "n3"

abbrev key : Kind → Name → Key
key = key_from ([])

abbrev set : Setting
set = setting_with key 1 text0 text0
    (response 0 text2 text3 (0 ∷ []) ∷ response 0 text10 text11 (1 ∷ []) ∷ response 0 text13 text14 (2 ∷ []) ∷ [])
    ((Ok (record { name = text0; value = (Value.Listener (record { name = text0; routes = (RoutesFrom.Inline routes8) })) })) ∷ (Ok (record { name = text0; value = (Value.Listener (record { name = text0; routes = (RoutesFrom.Inline routes12) })) })) ∷ (Ok (record { name = text0; value = (Value.Listener (record { name = text0; routes = (RoutesFrom.Inline routes8) })) })) ∷ [])

abbrev entry1 : Entry
entry1 = on_line 0 5 (driven (DriverEvent.Opened (record { 0 = 0 })) Verdict.Done (Some (key Kind.Listener text0)) ((record { authority = (record { 0 = 0 }); request = (record { kind = Kind.Listener; version = []; nonce = []; names = (text0 ∷ []); node = (Some a_node); error = None }) }) ∷ []) None ([]))

abbrev entry2 : Entry
entry2 = on_line 0 6 (driven (DriverEvent.Response (record { 0 = 0 }) (0 ∷ [])) (Verdict.Ack Kind.Listener) (Some (key Kind.Cluster text1)) ((record { authority = (record { 0 = 0 }); request = (record { kind = Kind.Listener; version = text2; nonce = text3; names = (text0 ∷ []); node = None; error = None }) }) ∷ (record { authority = (record { 0 = 0 }); request = (record { kind = Kind.Cluster; version = []; nonce = []; names = (text1 ∷ []); node = None; error = None }) }) ∷ []) None ([]))

abbrev entry3 : Entry
entry3 = on_line 0 6 (driven (DriverEvent.Bytes (record { 0 = 0 }) BytesHow.Whole) Verdict.Done (Some (key Kind.Cluster text1)) ([]) None ([]))

abbrev entry4 : Entry
entry4 = on_line 0 7 (driven (DriverEvent.Moment (record { 0 = 10000 })) Verdict.Done (Some (key Kind.Cluster text1)) ([]) None ([]))

abbrev entry5 : Entry
entry5 = on_line 0 8 (driven (DriverEvent.Response (record { 0 = 0 }) (1 ∷ [])) (Verdict.Ack Kind.Listener) (Some (key Kind.Cluster text9)) ((record { authority = (record { 0 = 0 }); request = (record { kind = Kind.Listener; version = text10; nonce = text11; names = (text0 ∷ []); node = None; error = None }) }) ∷ (record { authority = (record { 0 = 0 }); request = (record { kind = Kind.Cluster; version = []; nonce = []; names = (text9 ∷ []); node = None; error = None }) }) ∷ []) None ([]))

abbrev entry6 : Entry
entry6 = on_line 0 8 (driven (DriverEvent.Bytes (record { 0 = 0 }) BytesHow.Whole) Verdict.Done (Some (key Kind.Cluster text9)) ([]) None ([]))

abbrev entry7 : Entry
entry7 = on_line 0 9 (driven (DriverEvent.Response (record { 0 = 0 }) (2 ∷ [])) (Verdict.Ack Kind.Listener) (Some (key Kind.Cluster text1)) ((record { authority = (record { 0 = 0 }); request = (record { kind = Kind.Listener; version = text13; nonce = text14; names = (text0 ∷ []); node = None; error = None }) }) ∷ (record { authority = (record { 0 = 0 }); request = (record { kind = Kind.Cluster; version = []; nonce = []; names = (text1 ∷ []); node = None; error = None }) }) ∷ []) None ([]))

abbrev entry8 : Entry
entry8 = on_line 0 9 (driven (DriverEvent.Bytes (record { 0 = 0 }) BytesHow.Whole) Verdict.Done (Some (key Kind.Cluster text1)) ([]) None ([]))

abbrev entry9 : Entry
entry9 = on_line 0 10 (driven (DriverEvent.Moment (record { 0 = 15000 })) Verdict.Done (Some (key Kind.Cluster text1)) ([]) None ([]))

abbrev entry10 : Entry
entry10 = on_line 0 11 (driven (DriverEvent.Moment (record { 0 = 25000 })) Verdict.Done None ([]) (Some 1) ([]))

abbrev entry11 : Entry
entry11 = on_line 0 0 (driven DriverEvent.Sweep Verdict.Done None ([]) None ([]))

abbrev snapshot1 : Snapshot
snapshot1 = (record { number = 1; config = (record { front = (Ok (record { listener = text0; routes = routes8; host = 0 })); clusters = ((record { name = text1; state = (Err Reason.Absent) }) ∷ []) }); trees = ((Err Reason.Absent) ∷ []) })

-- the newest first
abbrev history : List Entry
history = entry11 ∷ entry10 ∷ entry9 ∷ entry8 ∷ entry7 ∷ entry6 ∷ entry5 ∷ entry4 ∷ entry3 ∷ entry2 ∷ entry1 ∷ []

replies : replayed set ([]) history ≡ as_made history
unfolding leaves_within goes_on ends
replies = refl

published : snapshots set history ≡ snapshot1 ∷ []
unfolding leaves_within goes_on ends
published = refl

-- what stands at each driver's entry, and its number: seen where the first snapshot isn't 1, where one is published that
-- shows nothing new, or where one that does isn't
abbrev told : List Step
told = ((record { stands = (Some (shown snapshot1)); last = (Some snapshot1); number = None }) ∷ (record { stands = (Some (shown snapshot1)); last = None; number = (Some 1) }) ∷ (record { stands = None; last = None; number = None }) ∷ (record { stands = None; last = None; number = None }) ∷ (record { stands = None; last = None; number = None }) ∷ (record { stands = None; last = None; number = None }) ∷ (record { stands = None; last = None; number = None }) ∷ (record { stands = None; last = None; number = None }) ∷ (record { stands = None; last = None; number = None }) ∷ (record { stands = None; last = None; number = None }) ∷ (record { stands = None; last = None; number = None }) ∷ [])

stood : steps set history ≡ told
unfolding leaves_within goes_on ends
stood = refl

numbered : AreNumbered told
numbered = (refl, (refl, (refl, (refl, (refl, (refl, (refl, (refl, (refl, (refl, (refl, tt)))))))))))

abbrev line5 : Line
line5 = (record { number = 5; gate = None; work = (Work.Driver (DriverLine.Opened (record { 0 = 0 }))) })

abbrev line6 : Line
line6 = (record { number = 6; gate = None; work = (Work.Driver (DriverLine.Bytes (record { 0 = 0 }) (0 ∷ 0 ∷ 0 ∷ 0 ∷ 1 ∷ 0 ∷ []))) })

abbrev line7 : Line
line7 = (record { number = 7; gate = None; work = (Work.Driver (DriverLine.Moment (record { 0 = 10000 }))) })

abbrev line8 : Line
line8 = (record { number = 8; gate = None; work = (Work.Driver (DriverLine.Bytes (record { 0 = 0 }) (0 ∷ 0 ∷ 0 ∷ 0 ∷ 1 ∷ 1 ∷ []))) })

abbrev line9 : Line
line9 = (record { number = 9; gate = None; work = (Work.Driver (DriverLine.Bytes (record { 0 = 0 }) (0 ∷ 0 ∷ 0 ∷ 0 ∷ 1 ∷ 2 ∷ []))) })

abbrev line10 : Line
line10 = (record { number = 10; gate = None; work = (Work.Driver (DriverLine.Moment (record { 0 = 15000 }))) })

abbrev line11 : Line
line11 = (record { number = 11; gate = None; work = (Work.Driver (DriverLine.Moment (record { 0 = 25000 }))) })

abbrev lines : List Line
lines = line5 ∷ line6 ∷ line7 ∷ line8 ∷ line9 ∷ line10 ∷ line11 ∷ []

-- the oldest first
abbrev entries : List Entry
entries = entry1 ∷ entry2 ∷ entry3 ∷ entry4 ∷ entry5 ∷ entry6 ∷ entry7 ∷ entry8 ∷ entry9 ∷ entry10 ∷ entry11 ∷ []

-- each line's events once and in order: seen where a line is left out, or comes twice
each : (caller : ℕ) → 1 ≤ caller → caller ≤ 1 → ArePlayed (lines_by caller lines) (entries_by caller entries)
each zero low high = absurd (omega (arith, low))
each (suc zero) low high = all
each (suc (suc n)) low high = absurd (omega (arith, high))

-- seen where the driver lists nothing, no responses, or not the last sweep
listed : AreListed (is_read set) 1 lines entries
unfolding driver_list cut cut_within first_frame fault_at
listed = record { driver = refl; each_caller = each; actors = All-from_recursion (λ entry. entry.actor ≤ 1) entries (at_most 0 1 refl, (at_most 0 1 refl, (at_most 0 1 refl, (at_most 0 1 refl, (at_most 0 1 refl, (at_most 0 1 refl, (at_most 0 1 refl, (at_most 0 1 refl, (at_most 0 1 refl, (at_most 0 1 refl, (at_most 0 1 refl, tt))))))))))) }

started1 : AreStarted (entries_by 1 entries)
started1 = tt

-- seen where a line's end isn't told, so that a gate stays shut
opened : AreOpen lines history
opened = (tt, (tt, (tt, (tt, (tt, (tt, (tt, (tt, (tt, (tt, (tt, tt)))))))))))

swept : EndsInSweep history
swept = refl
