-- Realistic channel: written by tools/history_rows.py from examples/federated_channel.session.
-- It is to catch: names of one authority at the other, a second locality's place.
use Rattle.std.proofs.Common.{◌≡◌, ◌≤◌, inr, refl, ℕ, zero, suc, List, [], ◌∷◌, true, false, Some, None, Ok, codes, arith}
use Rattle.std.proofs.lemmas.List.Elements.{All-from_recursion}
use Rattle.xc_base.specs.declared.names.Kind.{Kind}
use Rattle.xc_base.specs.declared.names.Key.{Key}
use Rattle.xc_base.specs.declared.names.Home.{Home}
use Rattle.xc_base.specs.declared.names.State.{State}
use Rattle.xds_config.specs.declared.value.Value.{Value}
use Rattle.xds_config.specs.declared.listener_values.RoutesFrom.{RoutesFrom}
use Rattle.xds_config.specs.declared.route_values.RouteValue.{RouteValue}
use Rattle.xds_config.specs.declared.route_values.PathTest.{PathTest}
use Rattle.xds_config.specs.declared.route_values.Action.{Action}
use Rattle.xds_config.specs.declared.cluster_values.Shape.{Shape}
use Rattle.xds_config.specs.declared.endpoint_values.EndpointValue.{EndpointValue}
use Rattle.route_match.specs.declared.answer.RouteAnswer.{RouteAnswer}
use Rattle.aggregate_expand.specs.Leaves.{goes_on, ends, leaves_within}
use Rattle.weighted_lb.specs.declared.picker.PickBody.{PickBody}
use Rattle.xds_history.specs.cluster_tree.declared.snapshot.Snapshot.{Snapshot}
use Rattle.ads_stream.specs.declared.verdict.Verdict.{Verdict}
use Rattle.xds_history.specs.call_journal.declared.event.BytesHow.{BytesHow}
use Rattle.xds_history.specs.call_journal.declared.event.DriverEvent.{DriverEvent}
use Rattle.xds_history.specs.call_journal.declared.event.CallerEvent.{CallerEvent}
use Rattle.xds_history.specs.call_journal.declared.reply.CallerReply.{CallerReply}
use Rattle.xds_history.specs.call_journal.declared.entry.Entry.{Entry}
use Rattle.grpc_framing.specs.Cut.{cut, cut_within, first_frame}
use Rattle.grpc_framing.specs.Framing.{fault_at}
use Rattle.session_lines.specs.declared.session.DriverLine.{DriverLine}
use Rattle.session_lines.specs.declared.session.Act.{Act}
use Rattle.session_lines.specs.declared.session.Work.{Work}
use Rattle.session_lines.specs.declared.session.Line.{Line}
use Rattle.session_script.specs.Plan.{driver_list, lines_by, entries_by, ArePlayed, all, next, AreListed}
use Rattle.xds_history.specs.config_assembly.Orders.{Name}
use Rattle.xds_history.specs.Setting.{Setting}
use Rattle.xds_history.specs.Right.{shown}
use Rattle.legal_history.specs.Legal.{AreOpen, AreStarted, EndsInSweep, is_read}
use Rattle.legal_history.proofs.Rows.{a_node, response, setting_with, key_from, driven, called, on_line, replayed, as_made, snapshots, Step, steps, AreNumbered, are_apart, at_most}

abbrev text0 : Name
text0 = codes "xdstp://a.example/envoy.config.listener.v3.Listener/shop"

abbrev text1 : Name
text1 = codes "xdstp://a.example/envoy.config.route.v3.RouteConfiguration/routes"

abbrev text2 : Name
text2 = codes "1"

abbrev text3 : Name
text3 = codes "n1"

abbrev text4 : Name
text4 = codes "xdstp://a.example/envoy.config.cluster.v3.Cluster/cart"

abbrev text5 : Name
text5 = codes "n2"

abbrev text6 : Name
text6 = codes "xdstp://a.example/envoy.config.cluster.v3.Cluster/web"

abbrev text7 : Name
text7 = codes "h0"

abbrev text8 : Name
text8 = codes "shop"

abbrev text9 : Name
text9 = codes "/shop.Cart/M1"

abbrev text10 : Name
text10 = codes "/shop.Cart/M2"

abbrev text11 : Name
text11 = codes "/shop.Cart/M3"

abbrev text12 : Name
text12 = codes "/shop.Cart/M4"

abbrev text13 : Name
text13 = codes "/shop.Cart/M5"

abbrev text14 : Name
text14 = codes "/shop.Cart/M6"

abbrev text15 : Name
text15 = codes "/shop.Cart/M7"

abbrev text16 : Name
text16 = codes "/shop.Cart/M8"

abbrev text17 : Name
text17 = codes "/shop.Cart/M9"

abbrev text18 : Name
text18 = codes "h1"

abbrev text19 : Name
text19 = codes "*.shop"

abbrev text20 : Name
text20 = codes "h2"

abbrev text21 : Name
text21 = codes "*"

abbrev routes22 : RouteValue
routes22 = (record { name = text1; hosts = ((record { name = text7; domains = (text8 ∷ []); routes = ((record { place = 0; path = (PathTest.Whole text9 true); headers = ([]); fraction = None; action = (Action.To ((record { cluster = text4; weight = 1 }) ∷ [])) }) ∷ (record { place = 1; path = (PathTest.Whole text10 true); headers = ([]); fraction = None; action = (Action.To ((record { cluster = text4; weight = 1 }) ∷ [])) }) ∷ (record { place = 2; path = (PathTest.Whole text11 true); headers = ([]); fraction = None; action = (Action.To ((record { cluster = text4; weight = 1 }) ∷ [])) }) ∷ (record { place = 3; path = (PathTest.Whole text12 true); headers = ([]); fraction = None; action = (Action.To ((record { cluster = text4; weight = 1 }) ∷ [])) }) ∷ (record { place = 4; path = (PathTest.Whole text13 true); headers = ([]); fraction = None; action = (Action.To ((record { cluster = text4; weight = 1 }) ∷ [])) }) ∷ (record { place = 5; path = (PathTest.Whole text14 true); headers = ([]); fraction = None; action = (Action.To ((record { cluster = text4; weight = 1 }) ∷ [])) }) ∷ (record { place = 6; path = (PathTest.Whole text15 true); headers = ([]); fraction = None; action = (Action.To ((record { cluster = text4; weight = 1 }) ∷ [])) }) ∷ (record { place = 7; path = (PathTest.Whole text16 true); headers = ([]); fraction = None; action = (Action.To ((record { cluster = text4; weight = 1 }) ∷ [])) }) ∷ (record { place = 8; path = (PathTest.Whole text17 true); headers = ([]); fraction = None; action = (Action.To ((record { cluster = text4; weight = 1 }) ∷ [])) }) ∷ (record { place = 9; path = (PathTest.Prefix [] true); headers = ([]); fraction = None; action = (Action.To ((record { cluster = text6; weight = 1 }) ∷ [])) }) ∷ []) }) ∷ (record { name = text18; domains = (text19 ∷ []); routes = ((record { place = 0; path = (PathTest.Prefix [] true); headers = ([]); fraction = None; action = (Action.To ((record { cluster = text6; weight = 1 }) ∷ [])) }) ∷ []) }) ∷ (record { name = text20; domains = (text21 ∷ []); routes = ((record { place = 0; path = (PathTest.Prefix [] true); headers = ([]); fraction = None; action = (Action.To ((record { cluster = text6; weight = 1 }) ∷ [])) }) ∷ []) }) ∷ []) })

abbrev text23 : Name
text23 = codes "xdstp://a.example/envoy.config.endpoint.v3.ClusterLoadAssignment/cart"

abbrev text24 : Name
text24 = codes "n3"

abbrev text25 : Name
text25 = codes "xdstp://a.example/envoy.config.endpoint.v3.ClusterLoadAssignment/web"

abbrev text26 : Name
text26 = codes "n4"

abbrev text27 : Name
text27 = codes "z1"

abbrev text28 : Name
text28 = codes "10.1.0.1:80"

abbrev text29 : Name
text29 = codes "z2"

abbrev text30 : Name
text30 = codes "10.1.0.2:80"

abbrev text31 : Name
text31 = codes "z3"

abbrev text32 : Name
text32 = codes "10.1.0.3:80"

abbrev text33 : Name
text33 = codes "10.1.1.1:80"

abbrev text34 : Name
text34 = codes "10.1.1.2:80"

abbrev text35 : Name
text35 = codes "10.1.1.3:80"

abbrev endpoints36 : EndpointValue
endpoints36 = (record { name = text23; localities = ((record { id = (record { region = []; zone = text27; sub_zone = [] }); priority = 0; weight = 1; addresses = (text28 ∷ []) }) ∷ (record { id = (record { region = []; zone = text29; sub_zone = [] }); priority = 0; weight = 2; addresses = (text30 ∷ []) }) ∷ (record { id = (record { region = []; zone = text31; sub_zone = [] }); priority = 0; weight = 1; addresses = (text32 ∷ []) }) ∷ (record { id = (record { region = []; zone = text27; sub_zone = [] }); priority = 1; weight = 1; addresses = (text33 ∷ []) }) ∷ (record { id = (record { region = []; zone = text29; sub_zone = [] }); priority = 1; weight = 2; addresses = (text34 ∷ []) }) ∷ (record { id = (record { region = []; zone = text31; sub_zone = [] }); priority = 1; weight = 1; addresses = (text35 ∷ []) }) ∷ []); drops = ([]) })

abbrev text37 : Name
text37 = codes "10.2.0.1:80"

abbrev text38 : Name
text38 = codes "10.2.0.2:80"

abbrev text39 : Name
text39 = codes "10.2.0.3:80"

abbrev text40 : Name
text40 = codes "10.2.1.1:80"

abbrev text41 : Name
text41 = codes "10.2.1.2:80"

abbrev text42 : Name
text42 = codes "10.2.1.3:80"

abbrev endpoints43 : EndpointValue
endpoints43 = (record { name = text25; localities = ((record { id = (record { region = []; zone = text27; sub_zone = [] }); priority = 0; weight = 1; addresses = (text37 ∷ []) }) ∷ (record { id = (record { region = []; zone = text29; sub_zone = [] }); priority = 0; weight = 2; addresses = (text38 ∷ []) }) ∷ (record { id = (record { region = []; zone = text31; sub_zone = [] }); priority = 0; weight = 1; addresses = (text39 ∷ []) }) ∷ (record { id = (record { region = []; zone = text27; sub_zone = [] }); priority = 1; weight = 1; addresses = (text40 ∷ []) }) ∷ (record { id = (record { region = []; zone = text29; sub_zone = [] }); priority = 1; weight = 2; addresses = (text41 ∷ []) }) ∷ (record { id = (record { region = []; zone = text31; sub_zone = [] }); priority = 1; weight = 1; addresses = (text42 ∷ []) }) ∷ []); drops = ([]) })

abbrev key : Kind → Name → Key
key = key_from ((record { kind = Kind.Listener; name = text0; home = (Home.At (record { 0 = 1 })) }) ∷ (record { kind = Kind.Route; name = text1; home = (Home.At (record { 0 = 1 })) }) ∷ (record { kind = Kind.Cluster; name = text4; home = (Home.At (record { 0 = 1 })) }) ∷ (record { kind = Kind.Cluster; name = text6; home = (Home.At (record { 0 = 1 })) }) ∷ (record { kind = Kind.Endpoint; name = text23; home = (Home.At (record { 0 = 1 })) }) ∷ (record { kind = Kind.Endpoint; name = text25; home = (Home.At (record { 0 = 1 })) }) ∷ [])

abbrev set : Setting
set = setting_with key 2 text0 text8
    (response 0 text2 text3 (0 ∷ []) ∷ response 1 text2 text5 (1 ∷ []) ∷ response 2 text2 text24 (2 ∷ 3 ∷ []) ∷ response 3 text2 text26 (4 ∷ 5 ∷ []) ∷ [])
    ((Ok (record { name = text0; value = (Value.Listener (record { name = text0; routes = (RoutesFrom.Named text1) })) })) ∷ (Ok (record { name = text1; value = (Value.Route routes22) })) ∷ (Ok (record { name = text4; value = (Value.Cluster (record { name = text4; shape = (Shape.Eds text23) })) })) ∷ (Ok (record { name = text6; value = (Value.Cluster (record { name = text6; shape = (Shape.Eds text25) })) })) ∷ (Ok (record { name = text23; value = (Value.Endpoint endpoints36) })) ∷ (Ok (record { name = text25; value = (Value.Endpoint endpoints43) })) ∷ [])

abbrev entry1 : Entry
entry1 = on_line 0 5 (driven (DriverEvent.Opened (record { 0 = 1 })) Verdict.Done (Some (key Kind.Listener text0)) ((record { authority = (record { 0 = 1 }); request = (record { kind = Kind.Listener; version = []; nonce = []; names = (text0 ∷ []); node = (Some a_node); error = None }) }) ∷ []) None ([]))

abbrev entry2 : Entry
entry2 = on_line 0 6 (driven (DriverEvent.Response (record { 0 = 1 }) (0 ∷ [])) (Verdict.Ack Kind.Listener) (Some (key Kind.Route text1)) ((record { authority = (record { 0 = 1 }); request = (record { kind = Kind.Listener; version = text2; nonce = text3; names = (text0 ∷ []); node = None; error = None }) }) ∷ (record { authority = (record { 0 = 1 }); request = (record { kind = Kind.Route; version = []; nonce = []; names = (text1 ∷ []); node = None; error = None }) }) ∷ []) None ([]))

abbrev entry3 : Entry
entry3 = on_line 0 6 (driven (DriverEvent.Bytes (record { 0 = 1 }) BytesHow.Whole) Verdict.Done (Some (key Kind.Route text1)) ([]) None ([]))

abbrev entry4 : Entry
entry4 = on_line 0 7 (driven (DriverEvent.Response (record { 0 = 1 }) (1 ∷ [])) (Verdict.Ack Kind.Route) (Some (key Kind.Cluster text4)) ((record { authority = (record { 0 = 1 }); request = (record { kind = Kind.Route; version = text2; nonce = text5; names = (text1 ∷ []); node = None; error = None }) }) ∷ (record { authority = (record { 0 = 1 }); request = (record { kind = Kind.Cluster; version = []; nonce = []; names = (text4 ∷ text6 ∷ []); node = None; error = None }) }) ∷ []) None ([]))

abbrev entry5 : Entry
entry5 = on_line 0 7 (driven (DriverEvent.Bytes (record { 0 = 1 }) BytesHow.Whole) Verdict.Done (Some (key Kind.Cluster text4)) ([]) None ([]))

abbrev entry6 : Entry
entry6 = on_line 0 8 (driven (DriverEvent.Response (record { 0 = 1 }) (2 ∷ [])) (Verdict.Ack Kind.Cluster) (Some (key Kind.Endpoint text23)) ((record { authority = (record { 0 = 1 }); request = (record { kind = Kind.Cluster; version = text2; nonce = text24; names = (text4 ∷ text6 ∷ []); node = None; error = None }) }) ∷ (record { authority = (record { 0 = 1 }); request = (record { kind = Kind.Endpoint; version = []; nonce = []; names = (text23 ∷ text25 ∷ []); node = None; error = None }) }) ∷ []) None ([]))

abbrev entry7 : Entry
entry7 = on_line 0 8 (driven (DriverEvent.Bytes (record { 0 = 1 }) BytesHow.Whole) Verdict.Done (Some (key Kind.Endpoint text23)) ([]) None ([]))

abbrev entry8 : Entry
entry8 = on_line 0 9 (driven (DriverEvent.Response (record { 0 = 1 }) (3 ∷ [])) (Verdict.Ack Kind.Endpoint) None ((record { authority = (record { 0 = 1 }); request = (record { kind = Kind.Endpoint; version = text2; nonce = text26; names = (text23 ∷ text25 ∷ []); node = None; error = None }) }) ∷ []) (Some 1) ([]))

abbrev entry9 : Entry
entry9 = on_line 0 9 (driven (DriverEvent.Bytes (record { 0 = 1 }) BytesHow.Whole) Verdict.Done None ([]) None ([]))

abbrev entry10 : Entry
entry10 = on_line 0 10 (driven (DriverEvent.Endpoint text28 State.Ready) Verdict.Done None ([]) (Some 2) ([]))

abbrev entry11 : Entry
entry11 = on_line 0 11 (driven (DriverEvent.Endpoint text30 State.Ready) Verdict.Done None ([]) (Some 3) ([]))

abbrev entry12 : Entry
entry12 = on_line 0 12 (driven (DriverEvent.Endpoint text32 State.Ready) Verdict.Done None ([]) (Some 4) ([]))

abbrev entry13 : Entry
entry13 = on_line 1 13 (called (CallerEvent.Pin (record { id = (record { 0 = 0 }); path = text11; headers = ([]); word = 0 })) (CallerReply.Pinned 4))

abbrev entry14 : Entry
entry14 = on_line 1 13 (called (CallerEvent.Hold (record { id = (record { 0 = 0 }); path = text11; headers = ([]); word = 0 })) (CallerReply.Routed 4 (RouteAnswer.To 2 0)))

abbrev entry15 : Entry
entry15 = on_line 1 14 (called (CallerEvent.Pick (record { 0 = 0 }) 0) (CallerReply.Endpoint 4 0 0 0))

abbrev entry16 : Entry
entry16 = on_line 1 15 (called (CallerEvent.Pick (record { 0 = 0 }) 9223372036854775808) (CallerReply.Endpoint 4 0 1 0))

abbrev entry17 : Entry
entry17 = on_line 1 16 (called (CallerEvent.Commit (record { 0 = 0 })) CallerReply.Released)

abbrev entry18 : Entry
entry18 = on_line 0 0 (driven DriverEvent.Sweep Verdict.Done None ([]) None ([]))

abbrev snapshot1 : Snapshot
snapshot1 = (record { number = 1; config = (record { front = (Ok (record { listener = text0; routes = routes22; host = 0 })); clusters = ((record { name = text4; state = (Ok (record { aggregate = false; leaves = ((record { name = text4; state = (Ok endpoints36) }) ∷ []) })) }) ∷ (record { name = text6; state = (Ok (record { aggregate = false; leaves = ((record { name = text6; state = (Ok endpoints43) }) ∷ []) })) }) ∷ []) }); trees = ((Ok (record { children = ((record { leaf = text4; priority = 0; view = (record { there = true; state = State.Connecting; pending = true; unused = false }) }) ∷ (record { leaf = text4; priority = 1; view = (record { there = false; state = State.Connecting; pending = false; unused = false }) }) ∷ []); chosen = 0; waiting = None; picker = (record { drops = ([]); body = PickBody.Queue }) })) ∷ (Ok (record { children = ((record { leaf = text6; priority = 0; view = (record { there = true; state = State.Connecting; pending = true; unused = false }) }) ∷ (record { leaf = text6; priority = 1; view = (record { there = false; state = State.Connecting; pending = false; unused = false }) }) ∷ []); chosen = 0; waiting = None; picker = (record { drops = ([]); body = PickBody.Queue }) })) ∷ []) })

abbrev snapshot2 : Snapshot
snapshot2 = (record { number = 2; config = (record { front = (Ok (record { listener = text0; routes = routes22; host = 0 })); clusters = ((record { name = text4; state = (Ok (record { aggregate = false; leaves = ((record { name = text4; state = (Ok endpoints36) }) ∷ []) })) }) ∷ (record { name = text6; state = (Ok (record { aggregate = false; leaves = ((record { name = text6; state = (Ok endpoints43) }) ∷ []) })) }) ∷ []) }); trees = ((Ok (record { children = ((record { leaf = text4; priority = 0; view = (record { there = true; state = State.Ready; pending = false; unused = false }) }) ∷ (record { leaf = text4; priority = 1; view = (record { there = false; state = State.Connecting; pending = false; unused = false }) }) ∷ []); chosen = 0; waiting = None; picker = (record { drops = ([]); body = (PickBody.Ready ((record { locality = 0; weight = 1; ready = (text28 ∷ []) }) ∷ []) (1 ∷ [])) }) })) ∷ (Ok (record { children = ((record { leaf = text6; priority = 0; view = (record { there = true; state = State.Connecting; pending = true; unused = false }) }) ∷ (record { leaf = text6; priority = 1; view = (record { there = false; state = State.Connecting; pending = false; unused = false }) }) ∷ []); chosen = 0; waiting = None; picker = (record { drops = ([]); body = PickBody.Queue }) })) ∷ []) })

abbrev snapshot3 : Snapshot
snapshot3 = (record { number = 3; config = (record { front = (Ok (record { listener = text0; routes = routes22; host = 0 })); clusters = ((record { name = text4; state = (Ok (record { aggregate = false; leaves = ((record { name = text4; state = (Ok endpoints36) }) ∷ []) })) }) ∷ (record { name = text6; state = (Ok (record { aggregate = false; leaves = ((record { name = text6; state = (Ok endpoints43) }) ∷ []) })) }) ∷ []) }); trees = ((Ok (record { children = ((record { leaf = text4; priority = 0; view = (record { there = true; state = State.Ready; pending = false; unused = false }) }) ∷ (record { leaf = text4; priority = 1; view = (record { there = false; state = State.Connecting; pending = false; unused = false }) }) ∷ []); chosen = 0; waiting = None; picker = (record { drops = ([]); body = (PickBody.Ready ((record { locality = 0; weight = 1; ready = (text28 ∷ []) }) ∷ (record { locality = 1; weight = 2; ready = (text30 ∷ []) }) ∷ []) (1 ∷ 3 ∷ [])) }) })) ∷ (Ok (record { children = ((record { leaf = text6; priority = 0; view = (record { there = true; state = State.Connecting; pending = true; unused = false }) }) ∷ (record { leaf = text6; priority = 1; view = (record { there = false; state = State.Connecting; pending = false; unused = false }) }) ∷ []); chosen = 0; waiting = None; picker = (record { drops = ([]); body = PickBody.Queue }) })) ∷ []) })

abbrev snapshot4 : Snapshot
snapshot4 = (record { number = 4; config = (record { front = (Ok (record { listener = text0; routes = routes22; host = 0 })); clusters = ((record { name = text4; state = (Ok (record { aggregate = false; leaves = ((record { name = text4; state = (Ok endpoints36) }) ∷ []) })) }) ∷ (record { name = text6; state = (Ok (record { aggregate = false; leaves = ((record { name = text6; state = (Ok endpoints43) }) ∷ []) })) }) ∷ []) }); trees = ((Ok (record { children = ((record { leaf = text4; priority = 0; view = (record { there = true; state = State.Ready; pending = false; unused = false }) }) ∷ (record { leaf = text4; priority = 1; view = (record { there = false; state = State.Connecting; pending = false; unused = false }) }) ∷ []); chosen = 0; waiting = None; picker = (record { drops = ([]); body = (PickBody.Ready ((record { locality = 0; weight = 1; ready = (text28 ∷ []) }) ∷ (record { locality = 1; weight = 2; ready = (text30 ∷ []) }) ∷ (record { locality = 2; weight = 1; ready = (text32 ∷ []) }) ∷ []) (1 ∷ 3 ∷ 4 ∷ [])) }) })) ∷ (Ok (record { children = ((record { leaf = text6; priority = 0; view = (record { there = true; state = State.Connecting; pending = true; unused = false }) }) ∷ (record { leaf = text6; priority = 1; view = (record { there = false; state = State.Connecting; pending = false; unused = false }) }) ∷ []); chosen = 0; waiting = None; picker = (record { drops = ([]); body = PickBody.Queue }) })) ∷ []) })

-- the newest first
abbrev history : List Entry
history = entry18 ∷ entry17 ∷ entry16 ∷ entry15 ∷ entry14 ∷ entry13 ∷ entry12 ∷ entry11 ∷ entry10 ∷ entry9 ∷ entry8 ∷ entry7 ∷ entry6 ∷ entry5 ∷ entry4 ∷ entry3 ∷ entry2 ∷ entry1 ∷ []

replies : replayed set ([]) history ≡ as_made history
unfolding leaves_within goes_on ends
replies = refl

published : snapshots set history ≡ snapshot4 ∷ snapshot3 ∷ snapshot2 ∷ snapshot1 ∷ []
unfolding leaves_within goes_on ends
published = refl

-- what stands at each driver's entry, and its number: seen where the first snapshot isn't 1, where one is published that
-- shows nothing new, or where one that does isn't
abbrev told : List Step
told = ((record { stands = (Some (shown snapshot4)); last = (Some snapshot4); number = None }) ∷ (record { stands = (Some (shown snapshot4)); last = (Some snapshot3); number = (Some 4) }) ∷ (record { stands = (Some (shown snapshot3)); last = (Some snapshot2); number = (Some 3) }) ∷ (record { stands = (Some (shown snapshot2)); last = (Some snapshot1); number = (Some 2) }) ∷ (record { stands = (Some (shown snapshot1)); last = (Some snapshot1); number = None }) ∷ (record { stands = (Some (shown snapshot1)); last = None; number = (Some 1) }) ∷ (record { stands = None; last = None; number = None }) ∷ (record { stands = None; last = None; number = None }) ∷ (record { stands = None; last = None; number = None }) ∷ (record { stands = None; last = None; number = None }) ∷ (record { stands = None; last = None; number = None }) ∷ (record { stands = None; last = None; number = None }) ∷ (record { stands = None; last = None; number = None }) ∷ [])

stood : steps set history ≡ told
unfolding leaves_within goes_on ends
stood = refl

numbered : AreNumbered told
numbered = (refl, ((refl, are_apart snapshot4 snapshot3 refl), ((refl, are_apart snapshot3 snapshot2 refl), ((refl, are_apart snapshot2 snapshot1 refl), (refl, (refl, (refl, (refl, (refl, (refl, (refl, (refl, (refl, tt)))))))))))))

abbrev line5 : Line
line5 = (record { number = 5; gate = None; work = (Work.Driver (DriverLine.Opened (record { 0 = 1 }))) })

abbrev line6 : Line
line6 = (record { number = 6; gate = None; work = (Work.Driver (DriverLine.Bytes (record { 0 = 1 }) (0 ∷ 0 ∷ 0 ∷ 0 ∷ 1 ∷ 0 ∷ []))) })

abbrev line7 : Line
line7 = (record { number = 7; gate = None; work = (Work.Driver (DriverLine.Bytes (record { 0 = 1 }) (0 ∷ 0 ∷ 0 ∷ 0 ∷ 1 ∷ 1 ∷ []))) })

abbrev line8 : Line
line8 = (record { number = 8; gate = None; work = (Work.Driver (DriverLine.Bytes (record { 0 = 1 }) (0 ∷ 0 ∷ 0 ∷ 0 ∷ 1 ∷ 2 ∷ []))) })

abbrev line9 : Line
line9 = (record { number = 9; gate = None; work = (Work.Driver (DriverLine.Bytes (record { 0 = 1 }) (0 ∷ 0 ∷ 0 ∷ 0 ∷ 1 ∷ 3 ∷ []))) })

abbrev line10 : Line
line10 = (record { number = 10; gate = None; work = (Work.Driver (DriverLine.Endpoint text28 State.Ready)) })

abbrev line11 : Line
line11 = (record { number = 11; gate = None; work = (Work.Driver (DriverLine.Endpoint text30 State.Ready)) })

abbrev line12 : Line
line12 = (record { number = 12; gate = None; work = (Work.Driver (DriverLine.Endpoint text32 State.Ready)) })

abbrev line13 : Line
line13 = (record { number = 13; gate = None; work = (Work.Caller 1 (Act.Start (record { id = (record { 0 = 0 }); path = text11; headers = ([]); word = 0 }))) })

abbrev line14 : Line
line14 = (record { number = 14; gate = None; work = (Work.Caller 1 (Act.Pick (record { 0 = 0 }) 0)) })

abbrev line15 : Line
line15 = (record { number = 15; gate = None; work = (Work.Caller 1 (Act.Pick (record { 0 = 0 }) 9223372036854775808)) })

abbrev line16 : Line
line16 = (record { number = 16; gate = None; work = (Work.Caller 1 (Act.Commit (record { 0 = 0 }))) })

abbrev lines : List Line
lines = line5 ∷ line6 ∷ line7 ∷ line8 ∷ line9 ∷ line10 ∷ line11 ∷ line12 ∷ line13 ∷ line14 ∷ line15 ∷ line16 ∷ []

-- the oldest first
abbrev entries : List Entry
entries = entry1 ∷ entry2 ∷ entry3 ∷ entry4 ∷ entry5 ∷ entry6 ∷ entry7 ∷ entry8 ∷ entry9 ∷ entry10 ∷ entry11 ∷ entry12 ∷ entry13 ∷ entry14 ∷ entry15 ∷ entry16 ∷ entry17 ∷ entry18 ∷ []

-- each line's events once and in order: seen where a line is left out, or comes twice
each : (caller : ℕ) → 1 ≤ caller → caller ≤ 1 → ArePlayed (lines_by caller lines) (entries_by caller entries)
each zero low high = absurd (omega (arith, low))
each (suc zero) low high = (next line13 (line14 ∷ line15 ∷ line16 ∷ []) (entry13 ∷ entry14 ∷ []) (entry15 ∷ entry16 ∷ entry17 ∷ []) (All-from_recursion (λ entry. entry.line ≡ 13) (entry13 ∷ entry14 ∷ []) (refl, (refl, tt))) (inr refl) (next line14 (line15 ∷ line16 ∷ []) (entry15 ∷ []) (entry16 ∷ entry17 ∷ []) (All-from_recursion (λ entry. entry.line ≡ 14) (entry15 ∷ []) (refl, tt)) refl (next line15 (line16 ∷ []) (entry16 ∷ []) (entry17 ∷ []) (All-from_recursion (λ entry. entry.line ≡ 15) (entry16 ∷ []) (refl, tt)) refl (next line16 ([]) (entry17 ∷ []) ([]) (All-from_recursion (λ entry. entry.line ≡ 16) (entry17 ∷ []) (refl, tt)) refl all))))
each (suc (suc n)) low high = absurd (omega (arith, high))

-- seen where the driver lists nothing, no responses, or not the last sweep
listed : AreListed (is_read set) 1 lines entries
unfolding driver_list cut cut_within first_frame fault_at
listed = record { driver = refl; each_caller = each; actors = All-from_recursion (λ entry. entry.actor ≤ 1) entries (at_most 0 1 refl, (at_most 0 1 refl, (at_most 0 1 refl, (at_most 0 1 refl, (at_most 0 1 refl, (at_most 0 1 refl, (at_most 0 1 refl, (at_most 0 1 refl, (at_most 0 1 refl, (at_most 0 1 refl, (at_most 0 1 refl, (at_most 0 1 refl, (at_most 1 1 refl, (at_most 1 1 refl, (at_most 1 1 refl, (at_most 1 1 refl, (at_most 1 1 refl, (at_most 0 1 refl, tt)))))))))))))))))) }

started1 : AreStarted (entries_by 1 entries)
started1 = (refl, (tt, (tt, (tt, (tt, tt)))))

-- seen where a line's end isn't told, so that a gate stays shut
opened : AreOpen lines history
opened = (tt, (tt, (tt, (tt, (tt, (tt, (tt, (tt, (tt, (tt, (tt, (tt, (tt, (tt, (tt, (tt, (tt, (tt, tt))))))))))))))))))

swept : EndsInSweep history
swept = refl
