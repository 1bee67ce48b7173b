-- Two authorities: written by tools/history_rows.py from examples/two_authorities.session.
-- It is to catch: one stream, version, nonce or node for both authorities, a deletion of the other's keys.
use Rattle.std.proofs.Common.{◌≡◌, ◌≤◌, refl, ℕ, zero, suc, List, [], ◌∷◌, true, false, Some, None, Ok, Err, codes, arith}
use Rattle.std.proofs.lemmas.List.Elements.{All-from_recursion}
use Rattle.xc_base.specs.declared.names.Kind.{Kind}
use Rattle.xc_base.specs.declared.names.Key.{Key}
use Rattle.xc_base.specs.declared.names.Home.{Home}
use Rattle.xc_base.specs.declared.names.State.{State}
use Rattle.xc_base.specs.declared.reason.Reason.{Reason}
use Rattle.xds_config.specs.declared.value.Value.{Value}
use Rattle.xds_config.specs.declared.listener_values.RoutesFrom.{RoutesFrom}
use Rattle.xds_config.specs.declared.route_values.RouteValue.{RouteValue}
use Rattle.xds_config.specs.declared.route_values.PathTest.{PathTest}
use Rattle.xds_config.specs.declared.route_values.Action.{Action}
use Rattle.xds_config.specs.declared.cluster_values.Shape.{Shape}
use Rattle.xds_config.specs.declared.endpoint_values.EndpointValue.{EndpointValue}
use Rattle.aggregate_expand.specs.Leaves.{goes_on, ends, leaves_within}
use Rattle.weighted_lb.specs.declared.picker.PickBody.{PickBody}
use Rattle.xds_history.specs.cluster_tree.declared.snapshot.Snapshot.{Snapshot}
use Rattle.ads_stream.specs.declared.verdict.Verdict.{Verdict}
use Rattle.xds_history.specs.call_journal.declared.event.BytesHow.{BytesHow}
use Rattle.xds_history.specs.call_journal.declared.event.DriverEvent.{DriverEvent}
use Rattle.xds_history.specs.call_journal.declared.entry.Entry.{Entry}
use Rattle.grpc_framing.specs.Cut.{cut, cut_within, first_frame}
use Rattle.grpc_framing.specs.Framing.{fault_at}
use Rattle.session_lines.specs.declared.session.DriverLine.{DriverLine}
use Rattle.session_lines.specs.declared.session.Work.{Work}
use Rattle.session_lines.specs.declared.session.Line.{Line}
use Rattle.session_script.specs.Plan.{driver_list, lines_by, entries_by, ArePlayed, all, AreListed}
use Rattle.xds_history.specs.config_assembly.Orders.{Name}
use Rattle.xds_history.specs.Setting.{Setting}
use Rattle.xds_history.specs.Right.{shown}
use Rattle.legal_history.specs.Legal.{AreOpen, AreStarted, EndsInSweep, is_read}
use Rattle.legal_history.proofs.Rows.{a_node, response, setting_with, key_from, driven, on_line, replayed, as_made, snapshots, Step, steps, AreNumbered, are_apart, at_most}

abbrev text0 : Name
text0 = codes "svc"

abbrev text1 : Name
text1 = codes "web"

abbrev text2 : Name
text2 = codes "1"

abbrev text3 : Name
text3 = codes "n1"

abbrev text4 : Name
text4 = codes "xdstp://a/envoy.config.cluster.v3.Cluster/x"

abbrev text5 : Name
text5 = codes "h"

abbrev text6 : Name
text6 = codes "*"

abbrev text7 : Name
text7 = codes "/"

abbrev text8 : Name
text8 = codes "r"

abbrev routes9 : RouteValue
routes9 = (record { name = text8; hosts = ((record { name = text5; domains = (text6 ∷ []); routes = ((record { place = 0; path = (PathTest.Prefix text7 true); headers = ([]); fraction = None; action = (Action.To ((record { cluster = text1; weight = 1 }) ∷ (record { cluster = text4; weight = 1 }) ∷ [])) }) ∷ []) }) ∷ []) })

abbrev text10 : Name
text10 = codes "n2"

abbrev text11 : Name
text11 = codes "s"

abbrev text12 : Name
text12 = codes "m1"

abbrev text13 : Name
text13 = codes "n3"

abbrev text14 : Name
text14 = codes "z"

abbrev text15 : Name
text15 = codes "10.0.0.1:80"

abbrev endpoints16 : EndpointValue
endpoints16 = (record { name = text1; localities = ((record { id = (record { region = []; zone = text14; sub_zone = [] }); priority = 0; weight = 1; addresses = (text15 ∷ []) }) ∷ []); drops = ([]) })

abbrev text17 : Name
text17 = codes "10.0.0.2:80"

abbrev endpoints18 : EndpointValue
endpoints18 = (record { name = text11; localities = ((record { id = (record { region = []; zone = text14; sub_zone = [] }); priority = 0; weight = 1; addresses = (text17 ∷ []) }) ∷ []); drops = ([]) })

abbrev text19 : Name
text19 = codes "2"

abbrev text20 : Name
text20 = codes "m2"

abbrev key : Kind → Name → Key
key = key_from ((record { kind = Kind.Cluster; name = text4; home = (Home.At (record { 0 = 1 })) }) ∷ [])

abbrev set : Setting
set = setting_with key 2 text0 text0
    (response 0 text2 text3 (0 ∷ []) ∷ response 2 text2 text10 (1 ∷ 2 ∷ []) ∷ response 2 text2 text12 (3 ∷ []) ∷ response 3 text2 text13 (4 ∷ 5 ∷ []) ∷ response 2 text19 text20 ([]) ∷ response 2 text19 text10 ([]) ∷ [])
    ((Ok (record { name = text0; value = (Value.Listener (record { name = text0; routes = (RoutesFrom.Inline routes9) })) })) ∷ (Ok (record { name = text1; value = (Value.Cluster (record { name = text1; shape = (Shape.Eds []) })) })) ∷ (Ok (record { name = text4; value = (Value.Cluster (record { name = text4; shape = (Shape.Eds text11) })) })) ∷ (Ok (record { name = text4; value = (Value.Cluster (record { name = text4; shape = (Shape.Eds text11) })) })) ∷ (Ok (record { name = text1; value = (Value.Endpoint endpoints16) })) ∷ (Ok (record { name = text11; value = (Value.Endpoint endpoints18) })) ∷ [])

abbrev entry1 : Entry
entry1 = on_line 0 5 (driven (DriverEvent.Opened (record { 0 = 0 })) Verdict.Done (Some (key Kind.Listener text0)) ((record { authority = (record { 0 = 0 }); request = (record { kind = Kind.Listener; version = []; nonce = []; names = (text0 ∷ []); node = (Some a_node); error = None }) }) ∷ []) None ([]))

abbrev entry2 : Entry
entry2 = on_line 0 6 (driven (DriverEvent.Opened (record { 0 = 1 })) Verdict.Done (Some (key Kind.Listener text0)) ([]) None ([]))

abbrev entry3 : Entry
entry3 = on_line 0 7 (driven (DriverEvent.Response (record { 0 = 0 }) (0 ∷ [])) (Verdict.Ack Kind.Listener) (Some (key Kind.Cluster text1)) ((record { authority = (record { 0 = 0 }); request = (record { kind = Kind.Listener; version = text2; nonce = text3; names = (text0 ∷ []); node = None; error = None }) }) ∷ (record { authority = (record { 0 = 0 }); request = (record { kind = Kind.Cluster; version = []; nonce = []; names = (text1 ∷ []); node = None; error = None }) }) ∷ (record { authority = (record { 0 = 1 }); request = (record { kind = Kind.Cluster; version = []; nonce = []; names = (text4 ∷ []); node = (Some a_node); error = None }) }) ∷ []) None ([]))

abbrev entry4 : Entry
entry4 = on_line 0 7 (driven (DriverEvent.Bytes (record { 0 = 0 }) BytesHow.Whole) Verdict.Done (Some (key Kind.Cluster text1)) ([]) None ([]))

abbrev entry5 : Entry
entry5 = on_line 0 8 (driven (DriverEvent.Response (record { 0 = 0 }) (1 ∷ [])) (Verdict.Ack Kind.Cluster) (Some (key Kind.Cluster text4)) ((record { authority = (record { 0 = 0 }); request = (record { kind = Kind.Cluster; version = text2; nonce = text10; names = (text1 ∷ []); node = None; error = None }) }) ∷ (record { authority = (record { 0 = 0 }); request = (record { kind = Kind.Endpoint; version = []; nonce = []; names = (text1 ∷ []); node = None; error = None }) }) ∷ []) None ([]))

abbrev entry6 : Entry
entry6 = on_line 0 8 (driven (DriverEvent.Bytes (record { 0 = 0 }) BytesHow.Whole) Verdict.Done (Some (key Kind.Cluster text4)) ([]) None ([]))

abbrev entry7 : Entry
entry7 = on_line 0 9 (driven (DriverEvent.Response (record { 0 = 1 }) (2 ∷ [])) (Verdict.Ack Kind.Cluster) (Some (key Kind.Endpoint text11)) ((record { authority = (record { 0 = 0 }); request = (record { kind = Kind.Endpoint; version = []; nonce = []; names = (text11 ∷ text1 ∷ []); node = None; error = None }) }) ∷ (record { authority = (record { 0 = 1 }); request = (record { kind = Kind.Cluster; version = text2; nonce = text12; names = (text4 ∷ []); node = None; error = None }) }) ∷ []) None ([]))

abbrev entry8 : Entry
entry8 = on_line 0 9 (driven (DriverEvent.Bytes (record { 0 = 1 }) BytesHow.Whole) Verdict.Done (Some (key Kind.Endpoint text11)) ([]) None ([]))

abbrev entry9 : Entry
entry9 = on_line 0 10 (driven (DriverEvent.Response (record { 0 = 0 }) (3 ∷ [])) (Verdict.Ack Kind.Endpoint) None ((record { authority = (record { 0 = 0 }); request = (record { kind = Kind.Endpoint; version = text2; nonce = text13; names = (text11 ∷ text1 ∷ []); node = None; error = None }) }) ∷ []) (Some 1) ([]))

abbrev entry10 : Entry
entry10 = on_line 0 10 (driven (DriverEvent.Bytes (record { 0 = 0 }) BytesHow.Whole) Verdict.Done None ([]) None ([]))

abbrev entry11 : Entry
entry11 = on_line 0 11 (driven (DriverEvent.Lost (record { 0 = 0 })) Verdict.Done None ([]) None ([]))

abbrev entry12 : Entry
entry12 = on_line 0 12 (driven (DriverEvent.Opened (record { 0 = 0 })) Verdict.Done None ((record { authority = (record { 0 = 0 }); request = (record { kind = Kind.Listener; version = text2; nonce = []; names = (text0 ∷ []); node = (Some a_node); error = None }) }) ∷ (record { authority = (record { 0 = 0 }); request = (record { kind = Kind.Cluster; version = text2; nonce = []; names = (text1 ∷ []); node = None; error = None }) }) ∷ (record { authority = (record { 0 = 0 }); request = (record { kind = Kind.Endpoint; version = text2; nonce = []; names = (text11 ∷ text1 ∷ []); node = None; error = None }) }) ∷ []) None ([]))

abbrev entry13 : Entry
entry13 = on_line 0 13 (driven (DriverEvent.Lost (record { 0 = 1 })) Verdict.Done None ([]) None ([]))

abbrev entry14 : Entry
entry14 = on_line 0 14 (driven (DriverEvent.Moment (record { 0 = 20000 })) Verdict.Done None ([]) (Some 2) ([]))

abbrev entry15 : Entry
entry15 = on_line 0 15 (driven (DriverEvent.Opened (record { 0 = 1 })) Verdict.Done None ((record { authority = (record { 0 = 1 }); request = (record { kind = Kind.Cluster; version = text2; nonce = []; names = (text4 ∷ []); node = (Some a_node); error = None }) }) ∷ []) None ([]))

abbrev entry16 : Entry
entry16 = on_line 0 16 (driven (DriverEvent.Response (record { 0 = 1 }) (4 ∷ [])) (Verdict.Ack Kind.Cluster) None ((record { authority = (record { 0 = 0 }); request = (record { kind = Kind.Endpoint; version = text2; nonce = []; names = (text1 ∷ []); node = None; error = None }) }) ∷ (record { authority = (record { 0 = 1 }); request = (record { kind = Kind.Cluster; version = text19; nonce = text20; names = (text4 ∷ []); node = None; error = None }) }) ∷ []) (Some 3) ([]))

abbrev entry17 : Entry
entry17 = on_line 0 16 (driven (DriverEvent.Bytes (record { 0 = 1 }) BytesHow.Whole) Verdict.Done None ([]) None ([]))

abbrev entry18 : Entry
entry18 = on_line 0 17 (driven (DriverEvent.Response (record { 0 = 0 }) (5 ∷ [])) (Verdict.Ack Kind.Cluster) None ((record { authority = (record { 0 = 0 }); request = (record { kind = Kind.Cluster; version = text19; nonce = text10; names = (text1 ∷ []); node = None; error = None }) }) ∷ (record { authority = (record { 0 = 0 }); request = (record { kind = Kind.Endpoint; version = text2; nonce = []; names = ([]); node = None; error = None }) }) ∷ []) (Some 4) ([]))

abbrev entry19 : Entry
entry19 = on_line 0 17 (driven (DriverEvent.Bytes (record { 0 = 0 }) BytesHow.Whole) Verdict.Done None ([]) None ([]))

abbrev entry20 : Entry
entry20 = on_line 0 0 (driven DriverEvent.Sweep Verdict.Done None ([]) None ([]))

abbrev snapshot1 : Snapshot
snapshot1 = (record { number = 1; config = (record { front = (Ok (record { listener = text0; routes = routes9; host = 0 })); clusters = ((record { name = text1; state = (Ok (record { aggregate = false; leaves = ((record { name = text1; state = (Ok endpoints16) }) ∷ []) })) }) ∷ (record { name = text4; state = (Ok (record { aggregate = false; leaves = ((record { name = text4; state = (Ok endpoints18) }) ∷ []) })) }) ∷ []) }); trees = ((Ok (record { children = ((record { leaf = text1; priority = 0; view = (record { there = true; state = State.Connecting; pending = true; unused = false }) }) ∷ []); chosen = 0; waiting = None; picker = (record { drops = ([]); body = PickBody.Queue }) })) ∷ (Ok (record { children = ((record { leaf = text4; priority = 0; view = (record { there = true; state = State.Connecting; pending = true; unused = false }) }) ∷ []); chosen = 0; waiting = None; picker = (record { drops = ([]); body = PickBody.Queue }) })) ∷ []) })

abbrev snapshot2 : Snapshot
snapshot2 = (record { number = 2; config = (record { front = (Ok (record { listener = text0; routes = routes9; host = 0 })); clusters = ((record { name = text1; state = (Ok (record { aggregate = false; leaves = ((record { name = text1; state = (Ok endpoints16) }) ∷ []) })) }) ∷ (record { name = text4; state = (Ok (record { aggregate = false; leaves = ((record { name = text4; state = (Ok endpoints18) }) ∷ []) })) }) ∷ []) }); trees = ((Ok (record { children = ((record { leaf = text1; priority = 0; view = (record { there = true; state = State.Connecting; pending = false; unused = false }) }) ∷ []); chosen = 0; waiting = None; picker = (record { drops = ([]); body = PickBody.Queue }) })) ∷ (Ok (record { children = ((record { leaf = text4; priority = 0; view = (record { there = true; state = State.Connecting; pending = false; unused = false }) }) ∷ []); chosen = 0; waiting = None; picker = (record { drops = ([]); body = PickBody.Queue }) })) ∷ []) })

abbrev snapshot3 : Snapshot
snapshot3 = (record { number = 3; config = (record { front = (Ok (record { listener = text0; routes = routes9; host = 0 })); clusters = ((record { name = text1; state = (Ok (record { aggregate = false; leaves = ((record { name = text1; state = (Ok endpoints16) }) ∷ []) })) }) ∷ (record { name = text4; state = (Err Reason.Absent) }) ∷ []) }); trees = ((Ok (record { children = ((record { leaf = text1; priority = 0; view = (record { there = true; state = State.Connecting; pending = false; unused = false }) }) ∷ []); chosen = 0; waiting = None; picker = (record { drops = ([]); body = PickBody.Queue }) })) ∷ (Err Reason.Absent) ∷ []) })

abbrev snapshot4 : Snapshot
snapshot4 = (record { number = 4; config = (record { front = (Ok (record { listener = text0; routes = routes9; host = 0 })); clusters = ((record { name = text1; state = (Err Reason.Absent) }) ∷ (record { name = text4; state = (Err Reason.Absent) }) ∷ []) }); trees = ((Err Reason.Absent) ∷ (Err Reason.Absent) ∷ []) })

-- the newest first
abbrev history : List Entry
history = entry20 ∷ entry19 ∷ entry18 ∷ entry17 ∷ entry16 ∷ entry15 ∷ entry14 ∷ entry13 ∷ entry12 ∷ entry11 ∷ entry10 ∷ entry9 ∷ entry8 ∷ entry7 ∷ entry6 ∷ entry5 ∷ entry4 ∷ entry3 ∷ entry2 ∷ entry1 ∷ []

replies : replayed set ([]) history ≡ as_made history
unfolding leaves_within goes_on ends
replies = refl

published : snapshots set history ≡ snapshot4 ∷ snapshot3 ∷ snapshot2 ∷ snapshot1 ∷ []
unfolding leaves_within goes_on ends
published = refl

-- what stands at each driver's entry, and its number: seen where the first snapshot isn't 1, where one is published that
-- shows nothing new, or where one that does isn't
abbrev told : List Step
told = ((record { stands = (Some (shown snapshot4)); last = (Some snapshot4); number = None }) ∷ (record { stands = (Some (shown snapshot4)); last = (Some snapshot4); number = None }) ∷ (record { stands = (Some (shown snapshot4)); last = (Some snapshot3); number = (Some 4) }) ∷ (record { stands = (Some (shown snapshot3)); last = (Some snapshot3); number = None }) ∷ (record { stands = (Some (shown snapshot3)); last = (Some snapshot2); number = (Some 3) }) ∷ (record { stands = (Some (shown snapshot2)); last = (Some snapshot2); number = None }) ∷ (record { stands = (Some (shown snapshot2)); last = (Some snapshot1); number = (Some 2) }) ∷ (record { stands = (Some (shown snapshot1)); last = (Some snapshot1); number = None }) ∷ (record { stands = (Some (shown snapshot1)); last = (Some snapshot1); number = None }) ∷ (record { stands = (Some (shown snapshot1)); last = (Some snapshot1); number = None }) ∷ (record { stands = (Some (shown snapshot1)); last = (Some snapshot1); number = None }) ∷ (record { stands = (Some (shown snapshot1)); last = None; number = (Some 1) }) ∷ (record { stands = None; last = None; number = None }) ∷ (record { stands = None; last = None; number = None }) ∷ (record { stands = None; last = None; number = None }) ∷ (record { stands = None; last = None; number = None }) ∷ (record { stands = None; last = None; number = None }) ∷ (record { stands = None; last = None; number = None }) ∷ (record { stands = None; last = None; number = None }) ∷ (record { stands = None; last = None; number = None }) ∷ [])

stood : steps set history ≡ told
unfolding leaves_within goes_on ends
stood = refl

numbered : AreNumbered told
numbered = (refl, (refl, ((refl, are_apart snapshot4 snapshot3 refl), (refl, ((refl, are_apart snapshot3 snapshot2 refl), (refl, ((refl, are_apart snapshot2 snapshot1 refl), (refl, (refl, (refl, (refl, (refl, (refl, (refl, (refl, (refl, (refl, (refl, (refl, (refl, tt))))))))))))))))))))

abbrev line5 : Line
line5 = (record { number = 5; gate = None; work = (Work.Driver (DriverLine.Opened (record { 0 = 0 }))) })

abbrev line6 : Line
line6 = (record { number = 6; gate = None; work = (Work.Driver (DriverLine.Opened (record { 0 = 1 }))) })

abbrev line7 : Line
line7 = (record { number = 7; gate = None; work = (Work.Driver (DriverLine.Bytes (record { 0 = 0 }) (0 ∷ 0 ∷ 0 ∷ 0 ∷ 1 ∷ 0 ∷ []))) })

abbrev line8 : Line
line8 = (record { number = 8; gate = None; work = (Work.Driver (DriverLine.Bytes (record { 0 = 0 }) (0 ∷ 0 ∷ 0 ∷ 0 ∷ 1 ∷ 1 ∷ []))) })

abbrev line9 : Line
line9 = (record { number = 9; gate = None; work = (Work.Driver (DriverLine.Bytes (record { 0 = 1 }) (0 ∷ 0 ∷ 0 ∷ 0 ∷ 1 ∷ 2 ∷ []))) })

abbrev line10 : Line
line10 = (record { number = 10; gate = None; work = (Work.Driver (DriverLine.Bytes (record { 0 = 0 }) (0 ∷ 0 ∷ 0 ∷ 0 ∷ 1 ∷ 3 ∷ []))) })

abbrev line11 : Line
line11 = (record { number = 11; gate = None; work = (Work.Driver (DriverLine.Lost (record { 0 = 0 }))) })

abbrev line12 : Line
line12 = (record { number = 12; gate = None; work = (Work.Driver (DriverLine.Opened (record { 0 = 0 }))) })

abbrev line13 : Line
line13 = (record { number = 13; gate = None; work = (Work.Driver (DriverLine.Lost (record { 0 = 1 }))) })

abbrev line14 : Line
line14 = (record { number = 14; gate = None; work = (Work.Driver (DriverLine.Moment (record { 0 = 20000 }))) })

abbrev line15 : Line
line15 = (record { number = 15; gate = None; work = (Work.Driver (DriverLine.Opened (record { 0 = 1 }))) })

abbrev line16 : Line
line16 = (record { number = 16; gate = None; work = (Work.Driver (DriverLine.Bytes (record { 0 = 1 }) (0 ∷ 0 ∷ 0 ∷ 0 ∷ 1 ∷ 4 ∷ []))) })

abbrev line17 : Line
line17 = (record { number = 17; gate = None; work = (Work.Driver (DriverLine.Bytes (record { 0 = 0 }) (0 ∷ 0 ∷ 0 ∷ 0 ∷ 1 ∷ 5 ∷ []))) })

abbrev lines : List Line
lines = line5 ∷ line6 ∷ line7 ∷ line8 ∷ line9 ∷ line10 ∷ line11 ∷ line12 ∷ line13 ∷ line14 ∷ line15 ∷ line16 ∷ line17 ∷ []

-- the oldest first
abbrev entries : List Entry
entries = entry1 ∷ entry2 ∷ entry3 ∷ entry4 ∷ entry5 ∷ entry6 ∷ entry7 ∷ entry8 ∷ entry9 ∷ entry10 ∷ entry11 ∷ entry12 ∷ entry13 ∷ entry14 ∷ entry15 ∷ entry16 ∷ entry17 ∷ entry18 ∷ entry19 ∷ entry20 ∷ []

-- each line's events once and in order: seen where a line is left out, or comes twice
each : (caller : ℕ) → 1 ≤ caller → caller ≤ 1 → ArePlayed (lines_by caller lines) (entries_by caller entries)
each zero low high = absurd (omega (arith, low))
each (suc zero) low high = all
each (suc (suc n)) low high = absurd (omega (arith, high))

-- seen where the driver lists nothing, no responses, or not the last sweep
listed : AreListed (is_read set) 1 lines entries
unfolding driver_list cut cut_within first_frame fault_at
listed = record { driver = refl; each_caller = each; actors = All-from_recursion (λ entry. entry.actor ≤ 1) entries (at_most 0 1 refl, (at_most 0 1 refl, (at_most 0 1 refl, (at_most 0 1 refl, (at_most 0 1 refl, (at_most 0 1 refl, (at_most 0 1 refl, (at_most 0 1 refl, (at_most 0 1 refl, (at_most 0 1 refl, (at_most 0 1 refl, (at_most 0 1 refl, (at_most 0 1 refl, (at_most 0 1 refl, (at_most 0 1 refl, (at_most 0 1 refl, (at_most 0 1 refl, (at_most 0 1 refl, (at_most 0 1 refl, (at_most 0 1 refl, tt)))))))))))))))))))) }

started1 : AreStarted (entries_by 1 entries)
started1 = tt

-- seen where a line's end isn't told, so that a gate stays shut
opened : AreOpen lines history
opened = (tt, (tt, (tt, (tt, (tt, (tt, (tt, (tt, (tt, (tt, (tt, (tt, (tt, (tt, (tt, (tt, (tt, (tt, (tt, (tt, tt))))))))))))))))))))

swept : EndsInSweep history
swept = refl
