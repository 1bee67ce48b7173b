-- Two refused texts: written by tools/history_rows.py from random session 5308.
-- It is to catch: refused texts of the newest entry first, or of one entry alone.
use Rattle.std.proofs.Common.{◌≡◌, refl, pos, negsuc, List, [], ◌∷◌, true, false, Some, None, Ok, Err, codes}
use Rattle.std.specs.Fmt.{digits}
use Rattle.xc_base.specs.declared.names.Kind.{Kind}
use Rattle.xc_base.specs.declared.names.Key.{Key}
use Rattle.xc_base.specs.declared.names.Home.{Home}
use Rattle.xc_base.specs.declared.names.NameFault.{NameFault}
use Rattle.xc_base.specs.declared.names.State.{State}
use Rattle.xc_base.specs.declared.reason.Reason.{Reason}
use Rattle.header_match.specs.declared.rule.HeaderTest.{HeaderTest}
use Rattle.xds_config.specs.declared.value.Value.{Value}
use Rattle.xds_config.specs.declared.listener_values.RoutesFrom.{RoutesFrom}
use Rattle.xds_config.specs.declared.route_values.RouteValue.{RouteValue}
use Rattle.xds_config.specs.declared.route_values.PathTest.{PathTest}
use Rattle.xds_config.specs.declared.route_values.Action.{Action}
use Rattle.xds_config.specs.declared.cluster_values.Shape.{Shape}
use Rattle.xds_config.specs.declared.endpoint_values.EndpointValue.{EndpointValue}
use Rattle.check_steps.specs.declared.check_fault.Stop.{Stop}
use Rattle.route_match.specs.declared.answer.RouteAnswer.{RouteAnswer}
use Rattle.aggregate_expand.specs.Leaves.{goes_on, ends, leaves_within}
use Rattle.weighted_lb.specs.declared.picker.PickBody.{PickBody}
use Rattle.cluster_tree.specs.declared.snapshot.Snapshot.{Snapshot}
use Rattle.ads_stream.specs.declared.verdict.Verdict.{Verdict}
use Rattle.call_journal.specs.declared.event.BytesHow.{BytesHow}
use Rattle.call_journal.specs.declared.event.DriverEvent.{DriverEvent}
use Rattle.call_journal.specs.declared.event.CallerEvent.{CallerEvent}
use Rattle.call_journal.specs.declared.reply.CallerReply.{CallerReply}
use Rattle.call_journal.specs.declared.entry.Entry.{Entry}
use Rattle.config_assembly.specs.Orders.{Name}
use Rattle.xds_history.specs.Setting.{Setting}
use Rattle.xds_history.specs.Responses.{refused_texts}
use Rattle.xds_history.specs.Right.{shown}
use Rattle.legal_history.proofs.Rows.{a_node, response, setting_with, key_from, driven, called, on_line, replayed, as_made, snapshots, Step, steps, AreNumbered, are_apart}

abbrev text0 : Name
text0 = codes "svc"

abbrev text1 : Name
text1 = codes "r2"

abbrev text2 : Name
text2 = codes "1"

abbrev text3 : Name
text3 = codes "n1"

abbrev text4 : Name
text4 = codes "n2"

abbrev text5 : Name
text5 = codes "y: bad-pattern"

abbrev text6 : Name
text6 = codes "a("

abbrev text7 : Name
text7 = codes "y"

abbrev text8 : Name
text8 = codes "h0"

abbrev text9 : Name
text9 = codes "sho*"

abbrev text10 : Name
text10 = codes "/a"

abbrev text11 : Name
text11 = codes "h"

abbrev text12 : Name
text12 = codes "/"

abbrev text13 : Name
text13 = codes "g"

abbrev routes14 : RouteValue
routes14 = (record { name = text1; hosts = ((record { name = text8; domains = (text9 ∷ []); routes = ((record { place = 0; path = (PathTest.Prefix text10 true); headers = ([]); fraction = (Some (record { n = 100; of = 100; known = refl })); action = (Action.To ((record { cluster = text11; weight = 1 }) ∷ [])) }) ∷ (record { place = 1; path = (PathTest.Prefix text12 true); headers = ([]); fraction = None; action = (Action.To ((record { cluster = text13; weight = 1 }) ∷ [])) }) ∷ []) }) ∷ []) })

abbrev text15 : Name
text15 = codes "n3"

abbrev text16 : Name
text16 = codes "r2: domain"

abbrev text17 : Name
text17 = codes "v 1,%"

abbrev text18 : Name
text18 = codes "10.0.1.3:80"

abbrev text19 : Name
text19 = codes "3"

abbrev text20 : Name
text20 = codes "n4"

abbrev text21 : Name
text21 = codes "*"

abbrev text22 : Name
text22 = codes "x-bin"

abbrev text23 : Name
text23 = codes "content-type"

abbrev text24 : Name
text24 = codes "/p.S/M"

abbrev text25 : Name
text25 = codes "n"

abbrev text26 : Name
text26 = codes "x"

abbrev text27 : Name
text27 = codes "ab"

abbrev text28 : Name
text28 = codes "a"

abbrev text29 : Name
text29 = codes "/A"

abbrev text30 : Name
text30 = codes "h1"

abbrev text31 : Name
text31 = codes "*vc"

abbrev text32 : Name
text32 = codes "/shop.Cart/M3"

abbrev text33 : Name
text33 = codes "r"

abbrev routes34 : RouteValue
routes34 = (record { name = text33; hosts = ((record { name = text8; domains = (text21 ∷ []); routes = ((record { place = 0; path = (PathTest.Whole text24 true); headers = ((record { name = text22; test = (HeaderTest.Exact []); invert = true }) ∷ (record { name = text23; test = (HeaderTest.Range (negsuc 4) (pos 10)); invert = false }) ∷ []); fraction = None; action = (Action.To ((record { cluster = text13; weight = 1 }) ∷ [])) }) ∷ (record { place = 1; path = (PathTest.Whole text12 true); headers = ((record { name = text25; test = (HeaderTest.Present true); invert = true }) ∷ (record { name = text26; test = (HeaderTest.Contains text27); invert = false }) ∷ []); fraction = None; action = (Action.To ((record { cluster = text28; weight = 1 }) ∷ [])) }) ∷ (record { place = 2; path = (PathTest.Prefix text29 false); headers = ([]); fraction = None; action = (Action.To ((record { cluster = text13; weight = 1 }) ∷ [])) }) ∷ []) }) ∷ (record { name = text30; domains = (text31 ∷ []); routes = ((record { place = 0; path = (PathTest.Whole text10 true); headers = ([]); fraction = None; action = (Action.To ((record { cluster = text11; weight = 1 }) ∷ [])) }) ∷ (record { place = 1; path = (PathTest.Prefix text12 true); headers = ((record { name = text26; test = (HeaderTest.Suffix text28); invert = false }) ∷ []); fraction = None; action = (Action.To ((record { cluster = text11; weight = 1 }) ∷ [])) }) ∷ (record { place = 2; path = (PathTest.Whole text32 true); headers = ([]); fraction = None; action = (Action.To ((record { cluster = text13; weight = 1 }) ∷ [])) }) ∷ []) }) ∷ []) })

abbrev text35 : Name
text35 = codes "xdstp://a.example/envoy.config.cluster.v3.Cluster/b#f"

abbrev text36 : Name
text36 = codes "4"

abbrev text37 : Name
text37 = codes "z"

abbrev text38 : Name
text38 = codes "xdstp://a.example/envoy.config.cluster.v3.Cluster/x"

abbrev text39 : Name
text39 = codes "n6"

abbrev text40 : Name
text40 = codes "n7"

abbrev text41 : Name
text41 = codes "*p.x"

abbrev text42 : Name
text42 = codes "sv*"

abbrev routes43 : RouteValue
routes43 = (record { name = text1; hosts = ((record { name = text8; domains = (text41 ∷ text42 ∷ []); routes = ((record { place = 0; path = (PathTest.Prefix text10 true); headers = ([]); fraction = None; action = (Action.To ((record { cluster = text28; weight = 0 }) ∷ (record { cluster = text35; weight = 0 }) ∷ (record { cluster = text28; weight = 2 }) ∷ (record { cluster = text13; weight = 1 }) ∷ [])) }) ∷ (record { place = 1; path = (PathTest.Prefix text12 true); headers = ([]); fraction = None; action = (Action.To ((record { cluster = text35; weight = 1 }) ∷ [])) }) ∷ []) }) ∷ []) })

abbrev text44 : Name
text44 = codes "5"

abbrev text45 : Name
text45 = codes "n8"

abbrev text46 : Name
text46 = codes "n9"

abbrev text47 : Name
text47 = codes "resource 2: no-name"

abbrev text48 : Name
text48 = codes "xdstp:s2"

abbrev text49 : Name
text49 = codes "s1"

abbrev text50 : Name
text50 = codes "6"

abbrev text51 : Name
text51 = codes "n10"

abbrev text52 : Name
text52 = (195 ∷ 169 ∷ [])

abbrev text53 : Name
text53 = codes "n11"

abbrev text54 : Name
text54 = codes "10.1.7.2:80"

abbrev text55 : Name
text55 = codes "10.1.2.1:80"

abbrev text56 : Name
text56 = codes "10.1.2.2:80"

abbrev text57 : Name
text57 = codes "z0"

abbrev text58 : Name
text58 = codes "10.1.3.2:80"

abbrev endpoints59 : EndpointValue
endpoints59 = (record { name = text28; localities = ((record { id = (record { region = text33; zone = text37; sub_zone = [] }); priority = 0; weight = 3; addresses = (text54 ∷ text55 ∷ text56 ∷ []) }) ∷ (record { id = (record { region = []; zone = text57; sub_zone = [] }); priority = 0; weight = 1; addresses = ([]) }) ∷ (record { id = (record { region = []; zone = text57; sub_zone = [] }); priority = 1; weight = 1; addresses = (text58 ∷ []) }) ∷ []); drops = ([]) })

abbrev text60 : Name
text60 = codes "10.1.2.8:80"

abbrev text61 : Name
text61 = codes "10.1.6.1:80"

abbrev text62 : Name
text62 = codes "10.1.0.7:80"

abbrev endpoints63 : EndpointValue
endpoints63 = (record { name = text49; localities = ((record { id = (record { region = []; zone = text57; sub_zone = [] }); priority = 0; weight = 2; addresses = (text60 ∷ text61 ∷ text62 ∷ []) }) ∷ []); drops = ([]) })

abbrev text64 : Name
text64 = codes "7"

abbrev text65 : Name
text65 = codes "n12"

abbrev text66 : Name
text66 = codes "/b/x"

abbrev text67 : Name
text67 = codes "n13"

abbrev routes68 : RouteValue
routes68 = (record { name = text1; hosts = ((record { name = text8; domains = (text21 ∷ []); routes = ((record { place = 0; path = (PathTest.Prefix text12 true); headers = ([]); fraction = None; action = (Action.To ((record { cluster = text35; weight = 1 }) ∷ [])) }) ∷ []) }) ∷ []) })

abbrev text69 : Name
text69 = codes "n14"

abbrev text70 : Name
text70 = codes "resource 0: unreadable"

abbrev text71 : Name
text71 = codes "8"

abbrev text72 : Name
text72 = codes "/aa"

abbrev text73 : Name
text73 = codes "9"

abbrev text74 : Name
text74 = codes "n15"

abbrev text75 : Name
text75 = codes "n16"

abbrev text76 : Name
text76 = codes "10.0.1.2:80"

abbrev text77 : Name
text77 = codes "[::1]:80"

abbrev text78 : Name
text78 = codes "10.0.0.1:80"

abbrev text79 : Name
text79 = codes "n18"

abbrev text80 : Name
text80 = codes "b: unreadable; svc: bad-pattern"

abbrev text81 : Name
text81 = codes "["

abbrev text82 : Name
text82 = codes "b"

abbrev text83 : Name
text83 = codes "11"

abbrev text84 : Name
text84 = codes "n19"

abbrev text85 : Name
text85 = codes "xdstp://a.example/envoy.config.cluster.v3.Cluster/b#f: wrong-type"

abbrev text86 : Name
text86 = codes "12"

abbrev text87 : Name
text87 = codes "10.0.1.4:80"

abbrev text88 : Name
text88 = codes "10.0.0.3:80"

abbrev text89 : Name
text89 = codes "13"

abbrev text90 : Name
text90 = codes "n20"

abbrev routes91 : RouteValue
routes91 = (record { name = []; hosts = ((record { name = text8; domains = (text0 ∷ []); routes = ((record { place = 0; path = (PathTest.Prefix text10 true); headers = ((record { name = text25; test = (HeaderTest.Range (pos 0) (pos 20)); invert = false }) ∷ (record { name = text25; test = (HeaderTest.Range (pos 5) (pos 1)); invert = true }) ∷ []); fraction = None; action = (Action.To ((record { cluster = text35; weight = 1 }) ∷ [])) }) ∷ (record { place = 1; path = (PathTest.Prefix text29 true); headers = ([]); fraction = None; action = (Action.To ((record { cluster = text28; weight = 1 }) ∷ [])) }) ∷ []) }) ∷ []) })

abbrev text92 : Name
text92 = codes "n21"

abbrev text93 : Name
text93 = codes "resource 0: wrong-type"

abbrev text94 : Name
text94 = codes "14"

abbrev key : Kind → Name → Key
key = key_from ((record { kind = Kind.Cluster; name = text35; home = (Home.At (record { 0 = 1 })) }) ∷ (record { kind = Kind.Cluster; name = text38; home = (Home.At (record { 0 = 1 })) }) ∷ (record { kind = Kind.Endpoint; name = text48; home = (Home.Nowhere NameFault.WrongType) }) ∷ [])

abbrev set : Setting
set = setting_with key 3 text0 text0
    (response 0 text2 text3 (0 ∷ []) ∷ response 1 text2 text4 (1 ∷ 2 ∷ []) ∷ response 1 text17 text15 (3 ∷ []) ∷ response 0 text19 text20 (4 ∷ []) ∷ response 2 text36 [] (5 ∷ 6 ∷ []) ∷ response 0 text36 text39 (7 ∷ []) ∷ response 1 text36 text40 (8 ∷ []) ∷ response 2 text44 text45 (9 ∷ []) ∷ response 2 text44 text46 (10 ∷ 11 ∷ 12 ∷ []) ∷ response 2 text50 text51 (13 ∷ 14 ∷ []) ∷ response 3 text52 text53 (15 ∷ 16 ∷ []) ∷ response 2 text64 text65 (17 ∷ 18 ∷ []) ∷ response 1 text52 text67 (19 ∷ []) ∷ response 2 text71 text69 (20 ∷ []) ∷ response 2 text73 text74 (21 ∷ 22 ∷ []) ∷ response 2 text17 text75 ([]) ∷ response 9 [] [] ([]) ∷ response 0 text83 text79 (23 ∷ 24 ∷ []) ∷ response 2 text86 text84 (25 ∷ []) ∷ response 0 text89 text90 (26 ∷ []) ∷ response 0 text94 text92 (27 ∷ []) ∷ [])
    ((Ok (record { name = text0; value = (Value.Listener (record { name = text0; routes = (RoutesFrom.Named text1) })) })) ∷ (Err (record { name = (Some text7); stop = (Stop.Refused text6) })) ∷ (Ok (record { name = text1; value = (Value.Route routes14) })) ∷ (Err (record { name = (Some text1); stop = (Stop.Because Reason.Domain) })) ∷ (Ok (record { name = text0; value = (Value.Listener (record { name = text0; routes = (RoutesFrom.Inline routes34) })) })) ∷ (Ok (record { name = text11; value = (Value.Cluster (record { name = text11; shape = (Shape.Eds []) })) })) ∷ (Ok (record { name = text13; value = (Value.Cluster (record { name = text13; shape = (Shape.Aggregate (text35 ∷ text37 ∷ text38 ∷ [])) })) })) ∷ (Ok (record { name = text0; value = (Value.Listener (record { name = text0; routes = (RoutesFrom.Named text1) })) })) ∷ (Ok (record { name = text1; value = (Value.Route routes43) })) ∷ (Ok (record { name = text13; value = (Value.Cluster (record { name = text13; shape = (Shape.Aggregate (text35 ∷ text37 ∷ text38 ∷ [])) })) })) ∷ (Ok (record { name = text28; value = (Value.Cluster (record { name = text28; shape = (Shape.Eds []) })) })) ∷ (Ok (record { name = text37; value = (Value.Cluster (record { name = text37; shape = (Shape.Eds text48) })) })) ∷ (Err (record { name = None; stop = (Stop.Because Reason.NoName) })) ∷ (Ok (record { name = text35; value = (Value.Cluster (record { name = text35; shape = (Shape.Eds text48) })) })) ∷ (Ok (record { name = text38; value = (Value.Cluster (record { name = text38; shape = (Shape.Eds text49) })) })) ∷ (Ok (record { name = text28; value = (Value.Endpoint endpoints59) })) ∷ (Ok (record { name = text49; value = (Value.Endpoint endpoints63) })) ∷ (Ok (record { name = text38; value = (Value.Cluster (record { name = text38; shape = (Shape.Eds text49) })) })) ∷ (Ok (record { name = text35; value = (Value.Cluster (record { name = text35; shape = (Shape.Eds text48) })) })) ∷ (Ok (record { name = text1; value = (Value.Route routes68) })) ∷ (Err (record { name = None; stop = (Stop.Because Reason.Unreadable) })) ∷ (Ok (record { name = text35; value = (Value.Cluster (record { name = text35; shape = (Shape.Eds text48) })) })) ∷ (Ok (record { name = text38; value = (Value.Cluster (record { name = text38; shape = (Shape.Eds text49) })) })) ∷ (Err (record { name = (Some text82); stop = (Stop.Because Reason.Unreadable) })) ∷ (Err (record { name = (Some text0); stop = (Stop.Refused text81) })) ∷ (Err (record { name = (Some text35); stop = (Stop.Because Reason.WrongType) })) ∷ (Ok (record { name = text0; value = (Value.Listener (record { name = text0; routes = (RoutesFrom.Inline routes91) })) })) ∷ (Err (record { name = None; stop = (Stop.Because Reason.WrongType) })) ∷ [])

abbrev entry1 : Entry
entry1 = on_line 0 5 (driven (DriverEvent.Opened (record { 0 = 0 })) Verdict.Done (Some (key Kind.Listener text0)) ((record { authority = (record { 0 = 0 }); request = (record { kind = Kind.Listener; version = []; nonce = []; names = (text0 ∷ []); node = (Some a_node); error = None }) }) ∷ []) None ([]))

abbrev entry2 : Entry
entry2 = on_line 0 6 (driven (DriverEvent.Moment (record { 0 = 900000 })) Verdict.Done None ([]) (Some 1) ([]))

abbrev entry3 : Entry
entry3 = on_line 0 7 (driven (DriverEvent.Response (record { 0 = 0 }) (0 ∷ [])) (Verdict.Ack Kind.Listener) (Some (key Kind.Route text1)) ((record { authority = (record { 0 = 0 }); request = (record { kind = Kind.Listener; version = text2; nonce = text3; names = (text0 ∷ []); node = None; error = None }) }) ∷ (record { authority = (record { 0 = 0 }); request = (record { kind = Kind.Route; version = []; nonce = []; names = (text1 ∷ []); node = None; error = None }) }) ∷ []) None ([]))

abbrev entry4 : Entry
entry4 = on_line 0 7 (driven (DriverEvent.Bytes (record { 0 = 0 }) BytesHow.Whole) Verdict.Done (Some (key Kind.Route text1)) ([]) None ([]))

abbrev entry5 : Entry
entry5 = on_line 0 8 (driven (DriverEvent.Response (record { 0 = 0 }) (1 ∷ [])) (Verdict.Nack Kind.Route) None ((record { authority = (record { 0 = 0 }); request = (record { kind = Kind.Route; version = []; nonce = text4; names = (text1 ∷ []); node = None; error = (Some text5) }) }) ∷ []) (Some 2) (text6 ∷ []))

abbrev entry6 : Entry
entry6 = on_line 0 8 (driven (DriverEvent.Bytes (record { 0 = 0 }) BytesHow.Whole) Verdict.Done None ([]) None ([]))

abbrev entry7 : Entry
entry7 = on_line 0 9 (driven (DriverEvent.Response (record { 0 = 0 }) (2 ∷ [])) (Verdict.Nack Kind.Route) None ((record { authority = (record { 0 = 0 }); request = (record { kind = Kind.Route; version = []; nonce = text15; names = (text1 ∷ []); node = None; error = (Some text16) }) }) ∷ []) None ([]))

abbrev entry8 : Entry
entry8 = on_line 0 9 (driven (DriverEvent.Bytes (record { 0 = 0 }) BytesHow.Whole) Verdict.Done None ([]) None ([]))

abbrev entry9 : Entry
entry9 = on_line 0 10 (driven (DriverEvent.Endpoint text18 State.Ready) Verdict.Done None ([]) None ([]))

abbrev entry10 : Entry
entry10 = on_line 0 11 (driven (DriverEvent.Moment (record { 0 = 900001 })) Verdict.Done None ([]) None ([]))

abbrev entry11 : Entry
entry11 = on_line 0 12 (driven (DriverEvent.Response (record { 0 = 0 }) (3 ∷ [])) (Verdict.Ack Kind.Listener) (Some (key Kind.Cluster text13)) ((record { authority = (record { 0 = 0 }); request = (record { kind = Kind.Listener; version = text19; nonce = text20; names = (text0 ∷ []); node = None; error = None }) }) ∷ (record { authority = (record { 0 = 0 }); request = (record { kind = Kind.Route; version = []; nonce = text15; names = ([]); node = None; error = None }) }) ∷ (record { authority = (record { 0 = 0 }); request = (record { kind = Kind.Cluster; version = []; nonce = []; names = (text13 ∷ text11 ∷ []); node = None; error = None }) }) ∷ []) None ([]))

abbrev entry12 : Entry
entry12 = on_line 0 12 (driven (DriverEvent.Bytes (record { 0 = 0 }) BytesHow.Whole) Verdict.Done (Some (key Kind.Cluster text13)) ([]) None ([]))

abbrev entry13 : Entry
entry13 = on_line 0 13 (driven (DriverEvent.Response (record { 0 = 0 }) (4 ∷ [])) (Verdict.Ack Kind.Cluster) (Some (key Kind.Cluster text35)) ((record { authority = (record { 0 = 0 }); request = (record { kind = Kind.Cluster; version = text36; nonce = []; names = (text13 ∷ text11 ∷ text37 ∷ []); node = None; error = None }) }) ∷ (record { authority = (record { 0 = 0 }); request = (record { kind = Kind.Endpoint; version = []; nonce = []; names = (text11 ∷ []); node = None; error = None }) }) ∷ []) None ([]))

abbrev entry14 : Entry
entry14 = on_line 0 13 (driven (DriverEvent.Bytes (record { 0 = 0 }) BytesHow.Whole) Verdict.Done (Some (key Kind.Cluster text35)) ([]) None ([]))

abbrev entry15 : Entry
entry15 = on_line 0 14 (driven (DriverEvent.Response (record { 0 = 0 }) (5 ∷ [])) (Verdict.Ack Kind.Listener) (Some (key Kind.Route text1)) ((record { authority = (record { 0 = 0 }); request = (record { kind = Kind.Listener; version = text36; nonce = text39; names = (text0 ∷ []); node = None; error = None }) }) ∷ (record { authority = (record { 0 = 0 }); request = (record { kind = Kind.Route; version = []; nonce = text15; names = (text1 ∷ []); node = None; error = None }) }) ∷ (record { authority = (record { 0 = 0 }); request = (record { kind = Kind.Cluster; version = text36; nonce = []; names = ([]); node = None; error = None }) }) ∷ (record { authority = (record { 0 = 0 }); request = (record { kind = Kind.Endpoint; version = []; nonce = []; names = ([]); node = None; error = None }) }) ∷ []) None ([]))

abbrev entry16 : Entry
entry16 = on_line 0 14 (driven (DriverEvent.Bytes (record { 0 = 0 }) BytesHow.Whole) Verdict.Done (Some (key Kind.Route text1)) ([]) None ([]))

abbrev entry17 : Entry
entry17 = on_line 0 15 (driven (DriverEvent.Lost (record { 0 = 0 })) Verdict.Done (Some (key Kind.Route text1)) ([]) None ([]))

abbrev entry18 : Entry
entry18 = on_line 0 16 (driven (DriverEvent.Opened (record { 0 = 0 })) Verdict.Done (Some (key Kind.Route text1)) ((record { authority = (record { 0 = 0 }); request = (record { kind = Kind.Listener; version = text36; nonce = []; names = (text0 ∷ []); node = (Some a_node); error = None }) }) ∷ (record { authority = (record { 0 = 0 }); request = (record { kind = Kind.Route; version = []; nonce = []; names = (text1 ∷ []); node = None; error = None }) }) ∷ []) None ([]))

abbrev entry19 : Entry
entry19 = on_line 0 17 (driven DriverEvent.Sweep Verdict.Done (Some (key Kind.Route text1)) ([]) None ([]))

abbrev entry20 : Entry
entry20 = on_line 0 18 (driven (DriverEvent.Response (record { 0 = 0 }) (6 ∷ [])) (Verdict.Ack Kind.Route) (Some (key Kind.Cluster text28)) ((record { authority = (record { 0 = 0 }); request = (record { kind = Kind.Route; version = text36; nonce = text40; names = (text1 ∷ []); node = None; error = None }) }) ∷ (record { authority = (record { 0 = 0 }); request = (record { kind = Kind.Cluster; version = text36; nonce = []; names = (text28 ∷ text13 ∷ []); node = None; error = None }) }) ∷ []) None ([]))

abbrev entry21 : Entry
entry21 = on_line 0 18 (driven (DriverEvent.Bytes (record { 0 = 0 }) BytesHow.Whole) Verdict.Done (Some (key Kind.Cluster text28)) ([]) None ([]))

abbrev entry22 : Entry
entry22 = on_line 0 19 (driven (DriverEvent.Opened (record { 0 = 1 })) Verdict.Done (Some (key Kind.Cluster text28)) ((record { authority = (record { 0 = 1 }); request = (record { kind = Kind.Cluster; version = []; nonce = []; names = (text35 ∷ []); node = (Some a_node); error = None }) }) ∷ []) None ([]))

abbrev entry23 : Entry
entry23 = on_line 0 20 (driven (DriverEvent.Response (record { 0 = 0 }) (7 ∷ [])) (Verdict.Ack Kind.Cluster) (Some (key Kind.Cluster text28)) ((record { authority = (record { 0 = 0 }); request = (record { kind = Kind.Cluster; version = text44; nonce = text45; names = (text28 ∷ text13 ∷ text37 ∷ []); node = None; error = None }) }) ∷ (record { authority = (record { 0 = 1 }); request = (record { kind = Kind.Cluster; version = []; nonce = []; names = (text35 ∷ text38 ∷ []); node = None; error = None }) }) ∷ []) None ([]))

abbrev entry24 : Entry
entry24 = on_line 0 20 (driven (DriverEvent.Bytes (record { 0 = 0 }) BytesHow.Whole) Verdict.Done (Some (key Kind.Cluster text28)) ([]) None ([]))

abbrev entry25 : Entry
entry25 = on_line 0 21 (driven (DriverEvent.Response (record { 0 = 0 }) (8 ∷ [])) (Verdict.Nack Kind.Cluster) (Some (key Kind.Cluster text35)) ((record { authority = (record { 0 = 0 }); request = (record { kind = Kind.Cluster; version = text44; nonce = text46; names = (text28 ∷ text13 ∷ text37 ∷ []); node = None; error = (Some text47) }) }) ∷ (record { authority = (record { 0 = 0 }); request = (record { kind = Kind.Endpoint; version = []; nonce = []; names = (text28 ∷ []); node = None; error = None }) }) ∷ []) None ([]))

abbrev entry26 : Entry
entry26 = on_line 0 21 (driven (DriverEvent.Bytes (record { 0 = 0 }) BytesHow.Whole) Verdict.Done (Some (key Kind.Cluster text35)) ([]) None ([]))

abbrev entry27 : Entry
entry27 = on_line 0 22 (driven (DriverEvent.Response (record { 0 = 1 }) (9 ∷ [])) (Verdict.Ack Kind.Cluster) (Some (key Kind.Endpoint text28)) ((record { authority = (record { 0 = 0 }); request = (record { kind = Kind.Endpoint; version = []; nonce = []; names = (text28 ∷ text49 ∷ []); node = None; error = None }) }) ∷ (record { authority = (record { 0 = 1 }); request = (record { kind = Kind.Cluster; version = text50; nonce = text51; names = (text35 ∷ text38 ∷ []); node = None; error = None }) }) ∷ []) None ([]))

abbrev entry28 : Entry
entry28 = on_line 0 22 (driven (DriverEvent.Bytes (record { 0 = 1 }) BytesHow.Whole) Verdict.Done (Some (key Kind.Endpoint text28)) ([]) None ([]))

abbrev entry29 : Entry
entry29 = on_line 0 23 (driven (DriverEvent.Response (record { 0 = 0 }) (10 ∷ [])) (Verdict.Ack Kind.Endpoint) None ((record { authority = (record { 0 = 0 }); request = (record { kind = Kind.Endpoint; version = text52; nonce = text53; names = (text28 ∷ text49 ∷ []); node = None; error = None }) }) ∷ []) (Some 3) ([]))

abbrev entry30 : Entry
entry30 = on_line 0 23 (driven (DriverEvent.Bytes (record { 0 = 0 }) BytesHow.Whole) Verdict.Done None ([]) None ([]))

abbrev entry31 : Entry
entry31 = on_line 0 24 (driven (DriverEvent.Response (record { 0 = 1 }) (11 ∷ [])) (Verdict.Ack Kind.Cluster) None ((record { authority = (record { 0 = 1 }); request = (record { kind = Kind.Cluster; version = text64; nonce = text65; names = (text35 ∷ text38 ∷ []); node = None; error = None }) }) ∷ []) None ([]))

abbrev entry32 : Entry
entry32 = on_line 0 24 (driven (DriverEvent.Bytes (record { 0 = 1 }) BytesHow.Whole) Verdict.Done None ([]) None ([]))

abbrev entry33 : Entry
entry33 = on_line 1 25 (called (CallerEvent.Pin (record { id = (record { 0 = 0 }); path = text66; headers = ([]); word = 1 })) (CallerReply.Pinned 3))

abbrev entry34 : Entry
entry34 = on_line 1 25 (called (CallerEvent.Hold (record { id = (record { 0 = 0 }); path = text66; headers = ([]); word = 1 })) (CallerReply.Routed 3 (RouteAnswer.To 1 0)))

abbrev entry35 : Entry
entry35 = on_line 1 26 (called (CallerEvent.Pick (record { 0 = 0 }) 18446744073709551615) (CallerReply.Fail 3 Reason.BadType))

abbrev entry36 : Entry
entry36 = on_line 0 27 (driven (DriverEvent.Response (record { 0 = 0 }) (12 ∷ [])) (Verdict.Ack Kind.Route) None ((record { authority = (record { 0 = 0 }); request = (record { kind = Kind.Route; version = text52; nonce = text67; names = (text1 ∷ []); node = None; error = None }) }) ∷ (record { authority = (record { 0 = 0 }); request = (record { kind = Kind.Cluster; version = text44; nonce = text46; names = ([]); node = None; error = None }) }) ∷ (record { authority = (record { 0 = 0 }); request = (record { kind = Kind.Endpoint; version = text52; nonce = text53; names = ([]); node = None; error = None }) }) ∷ (record { authority = (record { 0 = 1 }); request = (record { kind = Kind.Cluster; version = text64; nonce = text65; names = (text35 ∷ []); node = None; error = None }) }) ∷ []) (Some 4) ([]))

abbrev entry37 : Entry
entry37 = on_line 0 27 (driven (DriverEvent.Bytes (record { 0 = 0 }) BytesHow.Whole) Verdict.Done None ([]) None ([]))

abbrev entry38 : Entry
entry38 = on_line 1 28 (called (CallerEvent.Pick (record { 0 = 0 }) 0) (CallerReply.Fail 4 Reason.BadType))

abbrev entry39 : Entry
entry39 = on_line 0 29 (driven (DriverEvent.Bytes (record { 0 = 0 }) BytesHow.Whole) Verdict.Done None ([]) None ([]))

abbrev entry40 : Entry
entry40 = on_line 0 30 (driven (DriverEvent.Response (record { 0 = 1 }) (13 ∷ [])) (Verdict.Nack Kind.Cluster) None ((record { authority = (record { 0 = 1 }); request = (record { kind = Kind.Cluster; version = text64; nonce = text69; names = (text35 ∷ []); node = None; error = (Some text70) }) }) ∷ []) None ([]))

abbrev entry41 : Entry
entry41 = on_line 0 30 (driven (DriverEvent.Bytes (record { 0 = 1 }) BytesHow.Whole) Verdict.Done None ([]) None ([]))

abbrev entry42 : Entry
entry42 = on_line 1 31 (called (CallerEvent.Pick (record { 0 = 0 }) 15604402802207658746) (CallerReply.Fail 4 Reason.BadType))

abbrev entry43 : Entry
entry43 = on_line 1 32 (called (CallerEvent.Pin (record { id = (record { 0 = 1 }); path = text72; headers = ([]); word = 0 })) (CallerReply.Pinned 4))

abbrev entry44 : Entry
entry44 = on_line 1 32 (called (CallerEvent.Hold (record { id = (record { 0 = 1 }); path = text72; headers = ([]); word = 0 })) (CallerReply.Routed 4 (RouteAnswer.To 0 0)))

abbrev entry45 : Entry
entry45 = on_line 0 33 (driven (DriverEvent.Response (record { 0 = 1 }) (14 ∷ [])) (Verdict.Ack Kind.Cluster) None ((record { authority = (record { 0 = 1 }); request = (record { kind = Kind.Cluster; version = text73; nonce = text74; names = (text35 ∷ []); node = None; error = None }) }) ∷ []) None ([]))

abbrev entry46 : Entry
entry46 = on_line 0 33 (driven (DriverEvent.Bytes (record { 0 = 1 }) BytesHow.Whole) Verdict.Done None ([]) None ([]))

abbrev entry47 : Entry
entry47 = on_line 0 34 (driven (DriverEvent.Response (record { 0 = 1 }) (15 ∷ [])) (Verdict.Ack Kind.Cluster) None ((record { authority = (record { 0 = 1 }); request = (record { kind = Kind.Cluster; version = text17; nonce = text75; names = (text35 ∷ []); node = None; error = None }) }) ∷ []) (Some 5) ([]))

abbrev entry48 : Entry
entry48 = on_line 0 34 (driven (DriverEvent.Bytes (record { 0 = 1 }) BytesHow.Whole) Verdict.Done None ([]) None ([]))

abbrev entry49 : Entry
entry49 = on_line 0 35 (driven DriverEvent.Sweep Verdict.Done None ([]) None ([]))

abbrev entry50 : Entry
entry50 = on_line 0 36 (driven (DriverEvent.Endpoint text76 State.Failing) Verdict.Done None ([]) None ([]))

abbrev entry51 : Entry
entry51 = on_line 0 37 (driven (DriverEvent.Response (record { 0 = 0 }) (16 ∷ [])) Verdict.Ignored None ([]) None ([]))

abbrev entry52 : Entry
entry52 = on_line 0 37 (driven (DriverEvent.Bytes (record { 0 = 0 }) BytesHow.Compressed) Verdict.Done None ([]) None ([]))

abbrev entry53 : Entry
entry53 = on_line 0 38 (driven (DriverEvent.Opened (record { 0 = 0 })) Verdict.Done None ((record { authority = (record { 0 = 0 }); request = (record { kind = Kind.Listener; version = text36; nonce = []; names = (text0 ∷ []); node = (Some a_node); error = None }) }) ∷ (record { authority = (record { 0 = 0 }); request = (record { kind = Kind.Route; version = text52; nonce = []; names = (text1 ∷ []); node = None; error = None }) }) ∷ []) None ([]))

abbrev entry54 : Entry
entry54 = on_line 1 39 (called (CallerEvent.Commit (record { 0 = 0 })) CallerReply.Released)

abbrev entry55 : Entry
entry55 = on_line 0 40 (driven (DriverEvent.Endpoint text77 State.Ready) Verdict.Done None ([]) None ([]))

abbrev entry56 : Entry
entry56 = on_line 0 41 (driven (DriverEvent.Moment (record { 0 = 905000 })) Verdict.Done None ([]) None ([]))

abbrev entry57 : Entry
entry57 = on_line 0 42 (driven (DriverEvent.Moment (record { 0 = 905001 })) Verdict.Done None ([]) None ([]))

abbrev entry58 : Entry
entry58 = on_line 0 43 (driven (DriverEvent.Endpoint text18 State.Connecting) Verdict.Done None ([]) None ([]))

abbrev entry59 : Entry
entry59 = on_line 1 44 (called (CallerEvent.Pick (record { 0 = 1 }) 12891982086195253887) (CallerReply.Fail 5 Reason.Absent))

abbrev entry60 : Entry
entry60 = on_line 0 45 (driven (DriverEvent.Moment (record { 0 = 910000 })) Verdict.Done None ([]) None ([]))

abbrev entry61 : Entry
entry61 = on_line 0 46 (driven (DriverEvent.Endpoint text78 State.Connecting) Verdict.Done None ([]) None ([]))

abbrev entry62 : Entry
entry62 = on_line 0 47 (driven (DriverEvent.Response (record { 0 = 0 }) (17 ∷ [])) (Verdict.Nack Kind.Listener) None ((record { authority = (record { 0 = 0 }); request = (record { kind = Kind.Listener; version = text36; nonce = text79; names = (text0 ∷ []); node = None; error = (Some text80) }) }) ∷ []) None (text81 ∷ []))

abbrev entry63 : Entry
entry63 = on_line 0 47 (driven (DriverEvent.Bytes (record { 0 = 0 }) BytesHow.Whole) Verdict.Done None ([]) None ([]))

abbrev entry64 : Entry
entry64 = on_line 1 48 (called (CallerEvent.Pick (record { 0 = 1 }) 6897414133341640464) (CallerReply.Fail 5 Reason.Absent))

abbrev entry65 : Entry
entry65 = on_line 1 49 (called (CallerEvent.Pick (record { 0 = 1 }) 11307862862969348422) (CallerReply.Fail 5 Reason.Absent))

abbrev entry66 : Entry
entry66 = on_line 0 50 (driven (DriverEvent.Moment (record { 0 = 1810000 })) Verdict.Done None ([]) None ([]))

abbrev entry67 : Entry
entry67 = on_line 0 51 (driven (DriverEvent.Endpoint text77 State.Failing) Verdict.Done None ([]) None ([]))

abbrev entry68 : Entry
entry68 = on_line 0 52 (driven (DriverEvent.Response (record { 0 = 1 }) (18 ∷ [])) (Verdict.Nack Kind.Cluster) None ((record { authority = (record { 0 = 1 }); request = (record { kind = Kind.Cluster; version = text17; nonce = text84; names = (text35 ∷ []); node = None; error = (Some text85) }) }) ∷ []) (Some 6) ([]))

abbrev entry69 : Entry
entry69 = on_line 0 52 (driven (DriverEvent.Bytes (record { 0 = 1 }) BytesHow.Whole) Verdict.Done None ([]) None ([]))

abbrev entry70 : Entry
entry70 = on_line 0 53 (driven (DriverEvent.Endpoint text87 State.Ready) Verdict.Done None ([]) None ([]))

abbrev entry71 : Entry
entry71 = on_line 0 54 (driven (DriverEvent.Endpoint text78 State.Failing) Verdict.Done None ([]) None ([]))

abbrev entry72 : Entry
entry72 = on_line 0 55 (driven (DriverEvent.Opened (record { 0 = 0 })) Verdict.Done None ((record { authority = (record { 0 = 0 }); request = (record { kind = Kind.Listener; version = text36; nonce = []; names = (text0 ∷ []); node = (Some a_node); error = None }) }) ∷ (record { authority = (record { 0 = 0 }); request = (record { kind = Kind.Route; version = text52; nonce = []; names = (text1 ∷ []); node = None; error = None }) }) ∷ []) None ([]))

abbrev entry73 : Entry
entry73 = on_line 1 56 (called (CallerEvent.Pick (record { 0 = 1 }) 1) (CallerReply.Fail 6 Reason.WrongType))

abbrev entry74 : Entry
entry74 = on_line 0 57 (driven (DriverEvent.Endpoint text88 State.Failing) Verdict.Done None ([]) None ([]))

abbrev entry75 : Entry
entry75 = on_line 0 58 (driven (DriverEvent.Endpoint text88 State.Ready) Verdict.Done None ([]) None ([]))

abbrev entry76 : Entry
entry76 = on_line 0 59 (driven (DriverEvent.Response (record { 0 = 0 }) (19 ∷ [])) (Verdict.Ack Kind.Listener) (Some (key Kind.Cluster text28)) ((record { authority = (record { 0 = 0 }); request = (record { kind = Kind.Listener; version = text89; nonce = text90; names = (text0 ∷ []); node = None; error = None }) }) ∷ (record { authority = (record { 0 = 0 }); request = (record { kind = Kind.Route; version = text52; nonce = []; names = ([]); node = None; error = None }) }) ∷ (record { authority = (record { 0 = 0 }); request = (record { kind = Kind.Cluster; version = text44; nonce = []; names = (text28 ∷ []); node = None; error = None }) }) ∷ []) None ([]))

abbrev entry77 : Entry
entry77 = on_line 0 59 (driven (DriverEvent.Bytes (record { 0 = 0 }) BytesHow.Whole) Verdict.Done (Some (key Kind.Cluster text28)) ([]) None ([]))

abbrev entry78 : Entry
entry78 = on_line 0 60 (driven (DriverEvent.Response (record { 0 = 0 }) (20 ∷ [])) (Verdict.Nack Kind.Listener) (Some (key Kind.Cluster text28)) ((record { authority = (record { 0 = 0 }); request = (record { kind = Kind.Listener; version = text89; nonce = text92; names = (text0 ∷ []); node = None; error = (Some text93) }) }) ∷ []) None ([]))

abbrev entry79 : Entry
entry79 = on_line 0 60 (driven (DriverEvent.Bytes (record { 0 = 0 }) BytesHow.Whole) Verdict.Done (Some (key Kind.Cluster text28)) ([]) None ([]))

abbrev entry80 : Entry
entry80 = on_line 0 0 (driven DriverEvent.Sweep Verdict.Done (Some (key Kind.Cluster text28)) ([]) None ([]))

abbrev snapshot1 : Snapshot
snapshot1 = (record { number = 1; config = (record { front = (Err Reason.Absent); clusters = ([]) }); trees = ([]) })

abbrev snapshot2 : Snapshot
snapshot2 = (record { number = 2; config = (record { front = (Err Reason.NoHost); clusters = ([]) }); trees = ([]) })

abbrev snapshot3 : Snapshot
snapshot3 = (record { number = 3; config = (record { front = (Ok (record { listener = text0; routes = routes43; host = 0 })); clusters = ((record { name = text28; state = (Ok (record { aggregate = false; leaves = ((record { name = text28; state = (Ok endpoints59) }) ∷ []) })) }) ∷ (record { name = text13; state = (Ok (record { aggregate = true; leaves = ((record { name = text35; state = (Err Reason.BadType) }) ∷ (record { name = text37; state = (Err Reason.BadType) }) ∷ (record { name = text38; state = (Ok endpoints63) }) ∷ []) })) }) ∷ (record { name = text35; state = (Ok (record { aggregate = false; leaves = ((record { name = text35; state = (Err Reason.BadType) }) ∷ []) })) }) ∷ []) }); trees = ((Ok (record { children = ((record { leaf = text28; priority = 0; view = (record { there = true; state = State.Connecting; pending = true; unused = false }) }) ∷ (record { leaf = text28; priority = 1; view = (record { there = false; state = State.Connecting; pending = false; unused = false }) }) ∷ []); chosen = 0; waiting = None; picker = (record { drops = ([]); body = PickBody.Queue }) })) ∷ (Ok (record { children = ((record { leaf = text35; priority = 0; view = (record { there = true; state = State.Failing; pending = false; unused = false }) }) ∷ (record { leaf = text37; priority = 0; view = (record { there = true; state = State.Failing; pending = false; unused = false }) }) ∷ (record { leaf = text38; priority = 0; view = (record { there = true; state = State.Connecting; pending = true; unused = false }) }) ∷ []); chosen = 2; waiting = None; picker = (record { drops = ([]); body = PickBody.Queue }) })) ∷ (Ok (record { children = ((record { leaf = text35; priority = 0; view = (record { there = true; state = State.Failing; pending = false; unused = false }) }) ∷ []); chosen = 0; waiting = None; picker = (record { drops = ([]); body = (PickBody.Fail Reason.BadType) }) })) ∷ []) })

abbrev snapshot4 : Snapshot
snapshot4 = (record { number = 4; config = (record { front = (Ok (record { listener = text0; routes = routes68; host = 0 })); clusters = ((record { name = text35; state = (Ok (record { aggregate = false; leaves = ((record { name = text35; state = (Err Reason.BadType) }) ∷ []) })) }) ∷ []) }); trees = ((Ok (record { children = ((record { leaf = text35; priority = 0; view = (record { there = true; state = State.Failing; pending = false; unused = false }) }) ∷ []); chosen = 0; waiting = None; picker = (record { drops = ([]); body = (PickBody.Fail Reason.BadType) }) })) ∷ []) })

abbrev snapshot5 : Snapshot
snapshot5 = (record { number = 5; config = (record { front = (Ok (record { listener = text0; routes = routes68; host = 0 })); clusters = ((record { name = text35; state = (Err Reason.Absent) }) ∷ []) }); trees = ((Err Reason.Absent) ∷ []) })

abbrev snapshot6 : Snapshot
snapshot6 = (record { number = 6; config = (record { front = (Ok (record { listener = text0; routes = routes68; host = 0 })); clusters = ((record { name = text35; state = (Err Reason.WrongType) }) ∷ []) }); trees = ((Err Reason.WrongType) ∷ []) })

-- the newest first
abbrev pub history : List Entry
history = entry80 ∷ entry79 ∷ entry78 ∷ entry77 ∷ entry76 ∷ entry75 ∷ entry74 ∷ entry73 ∷ entry72 ∷ entry71 ∷ entry70 ∷ entry69 ∷ entry68 ∷ entry67 ∷ entry66 ∷ entry65 ∷ entry64 ∷ entry63 ∷ entry62 ∷ entry61 ∷ entry60 ∷ entry59 ∷ entry58 ∷ entry57 ∷ entry56 ∷ entry55 ∷ entry54 ∷ entry53 ∷ entry52 ∷ entry51 ∷ entry50 ∷ entry49 ∷ entry48 ∷ entry47 ∷ entry46 ∷ entry45 ∷ entry44 ∷ entry43 ∷ entry42 ∷ entry41 ∷ entry40 ∷ entry39 ∷ entry38 ∷ entry37 ∷ entry36 ∷ entry35 ∷ entry34 ∷ entry33 ∷ entry32 ∷ entry31 ∷ entry30 ∷ entry29 ∷ entry28 ∷ entry27 ∷ entry26 ∷ entry25 ∷ entry24 ∷ entry23 ∷ entry22 ∷ entry21 ∷ entry20 ∷ entry19 ∷ entry18 ∷ entry17 ∷ entry16 ∷ entry15 ∷ entry14 ∷ entry13 ∷ entry12 ∷ entry11 ∷ entry10 ∷ entry9 ∷ entry8 ∷ entry7 ∷ entry6 ∷ entry5 ∷ entry4 ∷ entry3 ∷ entry2 ∷ entry1 ∷ []

replies : replayed set (text6 ∷ text81 ∷ []) history ≡ as_made history
unfolding leaves_within goes_on ends digits
replies = refl

-- what entries tell as refused, the oldest entry's first: seen where none is told, or the newest first
pub refused : refused_texts history ≡ (text6 ∷ text81 ∷ [])
refused = refl

published : snapshots set history ≡ snapshot6 ∷ snapshot5 ∷ snapshot4 ∷ snapshot3 ∷ snapshot2 ∷ snapshot1 ∷ []
unfolding leaves_within goes_on ends
published = refl

-- what stands at each driver's entry, and its number: seen where the first snapshot isn't 1, where one is published that
-- shows nothing new, or where one that does isn't
abbrev told : List Step
told = ((record { stands = (Some (shown snapshot6)); last = (Some snapshot6); number = None }) ∷ (record { stands = (Some (shown snapshot6)); last = (Some snapshot6); number = None }) ∷ (record { stands = (Some (shown snapshot6)); last = (Some snapshot6); number = None }) ∷ (record { stands = (Some (shown snapshot6)); last = (Some snapshot6); number = None }) ∷ (record { stands = (Some (shown snapshot6)); last = (Some snapshot6); number = None }) ∷ (record { stands = (Some (shown snapshot6)); last = (Some snapshot6); number = None }) ∷ (record { stands = (Some (shown snapshot6)); last = (Some snapshot6); number = None }) ∷ (record { stands = (Some (shown snapshot6)); last = (Some snapshot6); number = None }) ∷ (record { stands = (Some (shown snapshot6)); last = (Some snapshot6); number = None }) ∷ (record { stands = (Some (shown snapshot6)); last = (Some snapshot6); number = None }) ∷ (record { stands = (Some (shown snapshot6)); last = (Some snapshot6); number = None }) ∷ (record { stands = (Some (shown snapshot6)); last = (Some snapshot5); number = (Some 6) }) ∷ (record { stands = (Some (shown snapshot5)); last = (Some snapshot5); number = None }) ∷ (record { stands = (Some (shown snapshot5)); last = (Some snapshot5); number = None }) ∷ (record { stands = (Some (shown snapshot5)); last = (Some snapshot5); number = None }) ∷ (record { stands = (Some (shown snapshot5)); last = (Some snapshot5); number = None }) ∷ (record { stands = (Some (shown snapshot5)); last = (Some snapshot5); number = None }) ∷ (record { stands = (Some (shown snapshot5)); last = (Some snapshot5); number = None }) ∷ (record { stands = (Some (shown snapshot5)); last = (Some snapshot5); number = None }) ∷ (record { stands = (Some (shown snapshot5)); last = (Some snapshot5); number = None }) ∷ (record { stands = (Some (shown snapshot5)); last = (Some snapshot5); number = None }) ∷ (record { stands = (Some (shown snapshot5)); last = (Some snapshot5); number = None }) ∷ (record { stands = (Some (shown snapshot5)); last = (Some snapshot5); number = None }) ∷ (record { stands = (Some (shown snapshot5)); last = (Some snapshot5); number = None }) ∷ (record { stands = (Some (shown snapshot5)); last = (Some snapshot5); number = None }) ∷ (record { stands = (Some (shown snapshot5)); last = (Some snapshot5); number = None }) ∷ (record { stands = (Some (shown snapshot5)); last = (Some snapshot5); number = None }) ∷ (record { stands = (Some (shown snapshot5)); last = (Some snapshot5); number = None }) ∷ (record { stands = (Some (shown snapshot5)); last = (Some snapshot4); number = (Some 5) }) ∷ (record { stands = (Some (shown snapshot4)); last = (Some snapshot4); number = None }) ∷ (record { stands = (Some (shown snapshot4)); last = (Some snapshot4); number = None }) ∷ (record { stands = (Some (shown snapshot4)); last = (Some snapshot4); number = None }) ∷ (record { stands = (Some (shown snapshot4)); last = (Some snapshot4); number = None }) ∷ (record { stands = (Some (shown snapshot4)); last = (Some snapshot4); number = None }) ∷ (record { stands = (Some (shown snapshot4)); last = (Some snapshot4); number = None }) ∷ (record { stands = (Some (shown snapshot4)); last = (Some snapshot3); number = (Some 4) }) ∷ (record { stands = (Some (shown snapshot3)); last = (Some snapshot3); number = None }) ∷ (record { stands = (Some (shown snapshot3)); last = (Some snapshot3); number = None }) ∷ (record { stands = (Some (shown snapshot3)); last = (Some snapshot3); number = None }) ∷ (record { stands = (Some (shown snapshot3)); last = (Some snapshot2); number = (Some 3) }) ∷ (record { stands = (Some (shown snapshot2)); last = (Some snapshot2); number = None }) ∷ (record { stands = (Some (shown snapshot2)); last = (Some snapshot2); number = None }) ∷ (record { stands = (Some (shown snapshot2)); last = (Some snapshot2); number = None }) ∷ (record { stands = (Some (shown snapshot2)); last = (Some snapshot2); number = None }) ∷ (record { stands = (Some (shown snapshot2)); last = (Some snapshot2); number = None }) ∷ (record { stands = (Some (shown snapshot2)); last = (Some snapshot2); number = None }) ∷ (record { stands = (Some (shown snapshot2)); last = (Some snapshot2); number = None }) ∷ (record { stands = (Some (shown snapshot2)); last = (Some snapshot2); number = None }) ∷ (record { stands = (Some (shown snapshot2)); last = (Some snapshot2); number = None }) ∷ (record { stands = (Some (shown snapshot2)); last = (Some snapshot2); number = None }) ∷ (record { stands = (Some (shown snapshot2)); last = (Some snapshot2); number = None }) ∷ (record { stands = (Some (shown snapshot2)); last = (Some snapshot2); number = None }) ∷ (record { stands = (Some (shown snapshot2)); last = (Some snapshot2); number = None }) ∷ (record { stands = (Some (shown snapshot2)); last = (Some snapshot2); number = None }) ∷ (record { stands = (Some (shown snapshot2)); last = (Some snapshot2); number = None }) ∷ (record { stands = (Some (shown snapshot2)); last = (Some snapshot2); number = None }) ∷ (record { stands = (Some (shown snapshot2)); last = (Some snapshot2); number = None }) ∷ (record { stands = (Some (shown snapshot2)); last = (Some snapshot2); number = None }) ∷ (record { stands = (Some (shown snapshot2)); last = (Some snapshot2); number = None }) ∷ (record { stands = (Some (shown snapshot2)); last = (Some snapshot2); number = None }) ∷ (record { stands = (Some (shown snapshot2)); last = (Some snapshot2); number = None }) ∷ (record { stands = (Some (shown snapshot2)); last = (Some snapshot2); number = None }) ∷ (record { stands = (Some (shown snapshot2)); last = (Some snapshot2); number = None }) ∷ (record { stands = (Some (shown snapshot2)); last = (Some snapshot1); number = (Some 2) }) ∷ (record { stands = (Some (shown snapshot1)); last = (Some snapshot1); number = None }) ∷ (record { stands = (Some (shown snapshot1)); last = (Some snapshot1); number = None }) ∷ (record { stands = (Some (shown snapshot1)); last = None; number = (Some 1) }) ∷ (record { stands = None; last = None; number = None }) ∷ [])

stood : steps set history ≡ told
unfolding leaves_within goes_on ends
stood = refl

numbered : AreNumbered told
numbered = (refl, (refl, (refl, (refl, (refl, (refl, (refl, (refl, (refl, (refl, (refl, ((refl, are_apart snapshot6 snapshot5 refl), (refl, (refl, (refl, (refl, (refl, (refl, (refl, (refl, (refl, (refl, (refl, (refl, (refl, (refl, (refl, (refl, ((refl, are_apart snapshot5 snapshot4 refl), (refl, (refl, (refl, (refl, (refl, (refl, ((refl, are_apart snapshot4 snapshot3 refl), (refl, (refl, (refl, ((refl, are_apart snapshot3 snapshot2 refl), (refl, (refl, (refl, (refl, (refl, (refl, (refl, (refl, (refl, (refl, (refl, (refl, (refl, (refl, (refl, (refl, (refl, (refl, (refl, (refl, (refl, (refl, (refl, ((refl, are_apart snapshot2 snapshot1 refl), (refl, (refl, (refl, (refl, tt))))))))))))))))))))))))))))))))))))))))))))))))))))))))))))))))))))
