-- Chain 16: written by tools/history_rows.py from examples/chain_16.session.
-- It is to catch: a chain of 16 that is too deep.
use Rattle.std.proofs.Common.{◌≡◌, ◌≤◌, refl, ℕ, zero, suc, List, [], ◌∷◌, true, false, Some, None, Ok, codes, arith}
use Rattle.std.proofs.lemmas.List.Elements.{All-from_recursion}
use Rattle.xc_base.specs.declared.names.Kind.{Kind}
use Rattle.xc_base.specs.declared.names.Key.{Key}
use Rattle.xc_base.specs.declared.names.State.{State}
use Rattle.xds_config.specs.declared.value.Value.{Value}
use Rattle.xds_config.specs.declared.listener_values.RoutesFrom.{RoutesFrom}
use Rattle.xds_config.specs.declared.route_values.RouteValue.{RouteValue}
use Rattle.xds_config.specs.declared.route_values.PathTest.{PathTest}
use Rattle.xds_config.specs.declared.route_values.Action.{Action}
use Rattle.xds_config.specs.declared.cluster_values.Shape.{Shape}
use Rattle.xds_config.specs.declared.endpoint_values.EndpointValue.{EndpointValue}
use Rattle.aggregate_expand.specs.Leaves.{goes_on, ends, leaves_within}
use Rattle.weighted_lb.specs.declared.picker.PickBody.{PickBody}
use Rattle.xds_history.specs.cluster_tree.declared.snapshot.Snapshot.{Snapshot}
use Rattle.ads_stream.specs.declared.verdict.Verdict.{Verdict}
use Rattle.xds_history.specs.call_journal.declared.event.BytesHow.{BytesHow}
use Rattle.xds_history.specs.call_journal.declared.event.DriverEvent.{DriverEvent}
use Rattle.xds_history.specs.call_journal.declared.entry.Entry.{Entry}
use Rattle.grpc_framing.specs.Cut.{cut, cut_within, first_frame}
use Rattle.grpc_framing.specs.Framing.{fault_at}
use Rattle.session_lines.specs.declared.session.DriverLine.{DriverLine}
use Rattle.session_lines.specs.declared.session.Work.{Work}
use Rattle.session_lines.specs.declared.session.Line.{Line}
use Rattle.session_script.specs.Plan.{driver_list, lines_by, entries_by, ArePlayed, all, AreListed}
use Rattle.xds_history.specs.config_assembly.Orders.{Name}
use Rattle.xds_history.specs.Setting.{Setting}
use Rattle.xds_history.specs.Right.{shown}
use Rattle.legal_history.specs.Legal.{AreOpen, AreStarted, EndsInSweep, is_read}
use Rattle.legal_history.proofs.Rows.{a_node, response, setting_with, key_from, driven, on_line, replayed, as_made, snapshots, Step, steps, AreNumbered, at_most}

abbrev text0 : Name
text0 = codes "svc"

abbrev text1 : Name
text1 = codes "g"

abbrev text2 : Name
text2 = codes "1"

abbrev text3 : Name
text3 = codes "n1"

abbrev text4 : Name
text4 = codes "h"

abbrev text5 : Name
text5 = codes "*"

abbrev text6 : Name
text6 = codes "/"

abbrev text7 : Name
text7 = codes "r"

abbrev routes8 : RouteValue
routes8 = (record { name = text7; hosts = ((record { name = text4; domains = (text5 ∷ []); routes = ((record { place = 0; path = (PathTest.Prefix text6 true); headers = ([]); fraction = None; action = (Action.To ((record { cluster = text1; weight = 1 }) ∷ [])) }) ∷ []) }) ∷ []) })

abbrev text9 : Name
text9 = codes "k1"

abbrev text10 : Name
text10 = codes "n2"

abbrev text11 : Name
text11 = codes "k2"

abbrev text12 : Name
text12 = codes "k3"

abbrev text13 : Name
text13 = codes "k4"

abbrev text14 : Name
text14 = codes "k5"

abbrev text15 : Name
text15 = codes "k6"

abbrev text16 : Name
text16 = codes "k7"

abbrev text17 : Name
text17 = codes "k8"

abbrev text18 : Name
text18 = codes "k9"

abbrev text19 : Name
text19 = codes "k10"

abbrev text20 : Name
text20 = codes "k11"

abbrev text21 : Name
text21 = codes "k12"

abbrev text22 : Name
text22 = codes "k13"

abbrev text23 : Name
text23 = codes "k14"

abbrev text24 : Name
text24 = codes "k15"

abbrev text25 : Name
text25 = codes "m0"

abbrev text26 : Name
text26 = codes "m1"

abbrev text27 : Name
text27 = codes "m2"

abbrev text28 : Name
text28 = codes "m3"

abbrev text29 : Name
text29 = codes "m4"

abbrev text30 : Name
text30 = codes "m5"

abbrev text31 : Name
text31 = codes "m6"

abbrev text32 : Name
text32 = codes "m7"

abbrev text33 : Name
text33 = codes "m8"

abbrev text34 : Name
text34 = codes "m9"

abbrev text35 : Name
text35 = codes "m10"

abbrev text36 : Name
text36 = codes "m11"

abbrev text37 : Name
text37 = codes "m12"

abbrev text38 : Name
text38 = codes "m13"

abbrev text39 : Name
text39 = codes "m14"

abbrev text40 : Name
text40 = codes "e"

abbrev text41 : Name
text41 = codes "z"

abbrev text42 : Name
text42 = codes "10.0.0.1:80"

abbrev endpoints43 : EndpointValue
endpoints43 = (record { name = text24; localities = ((record { id = (record { region = []; zone = text41; sub_zone = [] }); priority = 0; weight = 1; addresses = (text42 ∷ []) }) ∷ []); drops = ([]) })

abbrev key : Kind → Name → Key
key = key_from ([])

abbrev set : Setting
set = setting_with key 1 text0 text0
    (response 0 text2 text3 (0 ∷ []) ∷ response 2 text2 text10 (1 ∷ 2 ∷ 3 ∷ 4 ∷ 5 ∷ 6 ∷ 7 ∷ 8 ∷ 9 ∷ 10 ∷ 11 ∷ 12 ∷ 13 ∷ 14 ∷ 15 ∷ 16 ∷ []) ∷ response 2 text2 text25 (17 ∷ 18 ∷ 19 ∷ 20 ∷ 21 ∷ 22 ∷ 23 ∷ 24 ∷ 25 ∷ 26 ∷ 27 ∷ 28 ∷ 29 ∷ 30 ∷ 31 ∷ 32 ∷ []) ∷ response 2 text2 text26 (33 ∷ 34 ∷ 35 ∷ 36 ∷ 37 ∷ 38 ∷ 39 ∷ 40 ∷ 41 ∷ 42 ∷ 43 ∷ 44 ∷ 45 ∷ 46 ∷ 47 ∷ 48 ∷ []) ∷ response 2 text2 text27 (49 ∷ 50 ∷ 51 ∷ 52 ∷ 53 ∷ 54 ∷ 55 ∷ 56 ∷ 57 ∷ 58 ∷ 59 ∷ 60 ∷ 61 ∷ 62 ∷ 63 ∷ 64 ∷ []) ∷ response 2 text2 text28 (65 ∷ 66 ∷ 67 ∷ 68 ∷ 69 ∷ 70 ∷ 71 ∷ 72 ∷ 73 ∷ 74 ∷ 75 ∷ 76 ∷ 77 ∷ 78 ∷ 79 ∷ 80 ∷ []) ∷ response 2 text2 text29 (81 ∷ 82 ∷ 83 ∷ 84 ∷ 85 ∷ 86 ∷ 87 ∷ 88 ∷ 89 ∷ 90 ∷ 91 ∷ 92 ∷ 93 ∷ 94 ∷ 95 ∷ 96 ∷ []) ∷ response 2 text2 text30 (97 ∷ 98 ∷ 99 ∷ 100 ∷ 101 ∷ 102 ∷ 103 ∷ 104 ∷ 105 ∷ 106 ∷ 107 ∷ 108 ∷ 109 ∷ 110 ∷ 111 ∷ 112 ∷ []) ∷ response 2 text2 text31 (113 ∷ 114 ∷ 115 ∷ 116 ∷ 117 ∷ 118 ∷ 119 ∷ 120 ∷ 121 ∷ 122 ∷ 123 ∷ 124 ∷ 125 ∷ 126 ∷ 127 ∷ 128 ∷ []) ∷ response 2 text2 text32 (129 ∷ 130 ∷ 131 ∷ 132 ∷ 133 ∷ 134 ∷ 135 ∷ 136 ∷ 137 ∷ 138 ∷ 139 ∷ 140 ∷ 141 ∷ 142 ∷ 143 ∷ 144 ∷ []) ∷ response 2 text2 text33 (145 ∷ 146 ∷ 147 ∷ 148 ∷ 149 ∷ 150 ∷ 151 ∷ 152 ∷ 153 ∷ 154 ∷ 155 ∷ 156 ∷ 157 ∷ 158 ∷ 159 ∷ 160 ∷ []) ∷ response 2 text2 text34 (161 ∷ 162 ∷ 163 ∷ 164 ∷ 165 ∷ 166 ∷ 167 ∷ 168 ∷ 169 ∷ 170 ∷ 171 ∷ 172 ∷ 173 ∷ 174 ∷ 175 ∷ 176 ∷ []) ∷ response 2 text2 text35 (177 ∷ 178 ∷ 179 ∷ 180 ∷ 181 ∷ 182 ∷ 183 ∷ 184 ∷ 185 ∷ 186 ∷ 187 ∷ 188 ∷ 189 ∷ 190 ∷ 191 ∷ 192 ∷ []) ∷ response 2 text2 text36 (193 ∷ 194 ∷ 195 ∷ 196 ∷ 197 ∷ 198 ∷ 199 ∷ 200 ∷ 201 ∷ 202 ∷ 203 ∷ 204 ∷ 205 ∷ 206 ∷ 207 ∷ 208 ∷ []) ∷ response 2 text2 text37 (209 ∷ 210 ∷ 211 ∷ 212 ∷ 213 ∷ 214 ∷ 215 ∷ 216 ∷ 217 ∷ 218 ∷ 219 ∷ 220 ∷ 221 ∷ 222 ∷ 223 ∷ 224 ∷ []) ∷ response 2 text2 text38 (225 ∷ 226 ∷ 227 ∷ 228 ∷ 229 ∷ 230 ∷ 231 ∷ 232 ∷ 233 ∷ 234 ∷ 235 ∷ 236 ∷ 237 ∷ 238 ∷ 239 ∷ 240 ∷ []) ∷ response 2 text2 text39 (241 ∷ 242 ∷ 243 ∷ 244 ∷ 245 ∷ 246 ∷ 247 ∷ 248 ∷ 249 ∷ 250 ∷ 251 ∷ 252 ∷ 253 ∷ 254 ∷ 255 ∷ 256 ∷ []) ∷ response 3 text2 text40 (257 ∷ []) ∷ [])
    ((Ok (record { name = text0; value = (Value.Listener (record { name = text0; routes = (RoutesFrom.Inline routes8) })) })) ∷ (Ok (record { name = text1; value = (Value.Cluster (record { name = text1; shape = (Shape.Aggregate (text9 ∷ [])) })) })) ∷ (Ok (record { name = text9; value = (Value.Cluster (record { name = text9; shape = (Shape.Aggregate (text11 ∷ [])) })) })) ∷ (Ok (record { name = text11; value = (Value.Cluster (record { name = text11; shape = (Shape.Aggregate (text12 ∷ [])) })) })) ∷ (Ok (record { name = text12; value = (Value.Cluster (record { name = text12; shape = (Shape.Aggregate (text13 ∷ [])) })) })) ∷ (Ok (record { name = text13; value = (Value.Cluster (record { name = text13; shape = (Shape.Aggregate (text14 ∷ [])) })) })) ∷ (Ok (record { name = text14; value = (Value.Cluster (record { name = text14; shape = (Shape.Aggregate (text15 ∷ [])) })) })) ∷ (Ok (record { name = text15; value = (Value.Cluster (record { name = text15; shape = (Shape.Aggregate (text16 ∷ [])) })) })) ∷ (Ok (record { name = text16; value = (Value.Cluster (record { name = text16; shape = (Shape.Aggregate (text17 ∷ [])) })) })) ∷ (Ok (record { name = text17; value = (Value.Cluster (record { name = text17; shape = (Shape.Aggregate (text18 ∷ [])) })) })) ∷ (Ok (record { name = text18; value = (Value.Cluster (record { name = text18; shape = (Shape.Aggregate (text19 ∷ [])) })) })) ∷ (Ok (record { name = text19; value = (Value.Cluster (record { name = text19; shape = (Shape.Aggregate (text20 ∷ [])) })) })) ∷ (Ok (record { name = text20; value = (Value.Cluster (record { name = text20; shape = (Shape.Aggregate (text21 ∷ [])) })) })) ∷ (Ok (record { name = text21; value = (Value.Cluster (record { name = text21; shape = (Shape.Aggregate (text22 ∷ [])) })) })) ∷ (Ok (record { name = text22; value = (Value.Cluster (record { name = text22; shape = (Shape.Aggregate (text23 ∷ [])) })) })) ∷ (Ok (record { name = text23; value = (Value.Cluster (record { name = text23; shape = (Shape.Aggregate (text24 ∷ [])) })) })) ∷ (Ok (record { name = text24; value = (Value.Cluster (record { name = text24; shape = (Shape.Eds []) })) })) ∷ (Ok (record { name = text1; value = (Value.Cluster (record { name = text1; shape = (Shape.Aggregate (text9 ∷ [])) })) })) ∷ (Ok (record { name = text9; value = (Value.Cluster (record { name = text9; shape = (Shape.Aggregate (text11 ∷ [])) })) })) ∷ (Ok (record { name = text11; value = (Value.Cluster (record { name = text11; shape = (Shape.Aggregate (text12 ∷ [])) })) })) ∷ (Ok (record { name = text12; value = (Value.Cluster (record { name = text12; shape = (Shape.Aggregate (text13 ∷ [])) })) })) ∷ (Ok (record { name = text13; value = (Value.Cluster (record { name = text13; shape = (Shape.Aggregate (text14 ∷ [])) })) })) ∷ (Ok (record { name = text14; value = (Value.Cluster (record { name = text14; shape = (Shape.Aggregate (text15 ∷ [])) })) })) ∷ (Ok (record { name = text15; value = (Value.Cluster (record { name = text15; shape = (Shape.Aggregate (text16 ∷ [])) })) })) ∷ (Ok (record { name = text16; value = (Value.Cluster (record { name = text16; shape = (Shape.Aggregate (text17 ∷ [])) })) })) ∷ (Ok (record { name = text17; value = (Value.Cluster (record { name = text17; shape = (Shape.Aggregate (text18 ∷ [])) })) })) ∷ (Ok (record { name = text18; value = (Value.Cluster (record { name = text18; shape = (Shape.Aggregate (text19 ∷ [])) })) })) ∷ (Ok (record { name = text19; value = (Value.Cluster (record { name = text19; shape = (Shape.Aggregate (text20 ∷ [])) })) })) ∷ (Ok (record { name = text20; value = (Value.Cluster (record { name = text20; shape = (Shape.Aggregate (text21 ∷ [])) })) })) ∷ (Ok (record { name = text21; value = (Value.Cluster (record { name = text21; shape = (Shape.Aggregate (text22 ∷ [])) })) })) ∷ (Ok (record { name = text22; value = (Value.Cluster (record { name = text22; shape = (Shape.Aggregate (text23 ∷ [])) })) })) ∷ (Ok (record { name = text23; value = (Value.Cluster (record { name = text23; shape = (Shape.Aggregate (text24 ∷ [])) })) })) ∷ (Ok (record { name = text24; value = (Value.Cluster (record { name = text24; shape = (Shape.Eds []) })) })) ∷ (Ok (record { name = text1; value = (Value.Cluster (record { name = text1; shape = (Shape.Aggregate (text9 ∷ [])) })) })) ∷ (Ok (record { name = text9; value = (Value.Cluster (record { name = text9; shape = (Shape.Aggregate (text11 ∷ [])) })) })) ∷ (Ok (record { name = text11; value = (Value.Cluster (record { name = text11; shape = (Shape.Aggregate (text12 ∷ [])) })) })) ∷ (Ok (record { name = text12; value = (Value.Cluster (record { name = text12; shape = (Shape.Aggregate (text13 ∷ [])) })) })) ∷ (Ok (record { name = text13; value = (Value.Cluster (record { name = text13; shape = (Shape.Aggregate (text14 ∷ [])) })) })) ∷ (Ok (record { name = text14; value = (Value.Cluster (record { name = text14; shape = (Shape.Aggregate (text15 ∷ [])) })) })) ∷ (Ok (record { name = text15; value = (Value.Cluster (record { name = text15; shape = (Shape.Aggregate (text16 ∷ [])) })) })) ∷ (Ok (record { name = text16; value = (Value.Cluster (record { name = text16; shape = (Shape.Aggregate (text17 ∷ [])) })) })) ∷ (Ok (record { name = text17; value = (Value.Cluster (record { name = text17; shape = (Shape.Aggregate (text18 ∷ [])) })) })) ∷ (Ok (record { name = text18; value = (Value.Cluster (record { name = text18; shape = (Shape.Aggregate (text19 ∷ [])) })) })) ∷ (Ok (record { name = text19; value = (Value.Cluster (record { name = text19; shape = (Shape.Aggregate (text20 ∷ [])) })) })) ∷ (Ok (record { name = text20; value = (Value.Cluster (record { name = text20; shape = (Shape.Aggregate (text21 ∷ [])) })) })) ∷ (Ok (record { name = text21; value = (Value.Cluster (record { name = text21; shape = (Shape.Aggregate (text22 ∷ [])) })) })) ∷ (Ok (record { name = text22; value = (Value.Cluster (record { name = text22; shape = (Shape.Aggregate (text23 ∷ [])) })) })) ∷ (Ok (record { name = text23; value = (Value.Cluster (record { name = text23; shape = (Shape.Aggregate (text24 ∷ [])) })) })) ∷ (Ok (record { name = text24; value = (Value.Cluster (record { name = text24; shape = (Shape.Eds []) })) })) ∷ (Ok (record { name = text1; value = (Value.Cluster (record { name = text1; shape = (Shape.Aggregate (text9 ∷ [])) })) })) ∷ (Ok (record { name = text9; value = (Value.Cluster (record { name = text9; shape = (Shape.Aggregate (text11 ∷ [])) })) })) ∷ (Ok (record { name = text11; value = (Value.Cluster (record { name = text11; shape = (Shape.Aggregate (text12 ∷ [])) })) })) ∷ (Ok (record { name = text12; value = (Value.Cluster (record { name = text12; shape = (Shape.Aggregate (text13 ∷ [])) })) })) ∷ (Ok (record { name = text13; value = (Value.Cluster (record { name = text13; shape = (Shape.Aggregate (text14 ∷ [])) })) })) ∷ (Ok (record { name = text14; value = (Value.Cluster (record { name = text14; shape = (Shape.Aggregate (text15 ∷ [])) })) })) ∷ (Ok (record { name = text15; value = (Value.Cluster (record { name = text15; shape = (Shape.Aggregate (text16 ∷ [])) })) })) ∷ (Ok (record { name = text16; value = (Value.Cluster (record { name = text16; shape = (Shape.Aggregate (text17 ∷ [])) })) })) ∷ (Ok (record { name = text17; value = (Value.Cluster (record { name = text17; shape = (Shape.Aggregate (text18 ∷ [])) })) })) ∷ (Ok (record { name = text18; value = (Value.Cluster (record { name = text18; shape = (Shape.Aggregate (text19 ∷ [])) })) })) ∷ (Ok (record { name = text19; value = (Value.Cluster (record { name = text19; shape = (Shape.Aggregate (text20 ∷ [])) })) })) ∷ (Ok (record { name = text20; value = (Value.Cluster (record { name = text20; shape = (Shape.Aggregate (text21 ∷ [])) })) })) ∷ (Ok (record { name = text21; value = (Value.Cluster (record { name = text21; shape = (Shape.Aggregate (text22 ∷ [])) })) })) ∷ (Ok (record { name = text22; value = (Value.Cluster (record { name = text22; shape = (Shape.Aggregate (text23 ∷ [])) })) })) ∷ (Ok (record { name = text23; value = (Value.Cluster (record { name = text23; shape = (Shape.Aggregate (text24 ∷ [])) })) })) ∷ (Ok (record { name = text24; value = (Value.Cluster (record { name = text24; shape = (Shape.Eds []) })) })) ∷ (Ok (record { name = text1; value = (Value.Cluster (record { name = text1; shape = (Shape.Aggregate (text9 ∷ [])) })) })) ∷ (Ok (record { name = text9; value = (Value.Cluster (record { name = text9; shape = (Shape.Aggregate (text11 ∷ [])) })) })) ∷ (Ok (record { name = text11; value = (Value.Cluster (record { name = text11; shape = (Shape.Aggregate (text12 ∷ [])) })) })) ∷ (Ok (record { name = text12; value = (Value.Cluster (record { name = text12; shape = (Shape.Aggregate (text13 ∷ [])) })) })) ∷ (Ok (record { name = text13; value = (Value.Cluster (record { name = text13; shape = (Shape.Aggregate (text14 ∷ [])) })) })) ∷ (Ok (record { name = text14; value = (Value.Cluster (record { name = text14; shape = (Shape.Aggregate (text15 ∷ [])) })) })) ∷ (Ok (record { name = text15; value = (Value.Cluster (record { name = text15; shape = (Shape.Aggregate (text16 ∷ [])) })) })) ∷ (Ok (record { name = text16; value = (Value.Cluster (record { name = text16; shape = (Shape.Aggregate (text17 ∷ [])) })) })) ∷ (Ok (record { name = text17; value = (Value.Cluster (record { name = text17; shape = (Shape.Aggregate (text18 ∷ [])) })) })) ∷ (Ok (record { name = text18; value = (Value.Cluster (record { name = text18; shape = (Shape.Aggregate (text19 ∷ [])) })) })) ∷ (Ok (record { name = text19; value = (Value.Cluster (record { name = text19; shape = (Shape.Aggregate (text20 ∷ [])) })) })) ∷ (Ok (record { name = text20; value = (Value.Cluster (record { name = text20; shape = (Shape.Aggregate (text21 ∷ [])) })) })) ∷ (Ok (record { name = text21; value = (Value.Cluster (record { name = text21; shape = (Shape.Aggregate (text22 ∷ [])) })) })) ∷ (Ok (record { name = text22; value = (Value.Cluster (record { name = text22; shape = (Shape.Aggregate (text23 ∷ [])) })) })) ∷ (Ok (record { name = text23; value = (Value.Cluster (record { name = text23; shape = (Shape.Aggregate (text24 ∷ [])) })) })) ∷ (Ok (record { name = text24; value = (Value.Cluster (record { name = text24; shape = (Shape.Eds []) })) })) ∷ (Ok (record { name = text1; value = (Value.Cluster (record { name = text1; shape = (Shape.Aggregate (text9 ∷ [])) })) })) ∷ (Ok (record { name = text9; value = (Value.Cluster (record { name = text9; shape = (Shape.Aggregate (text11 ∷ [])) })) })) ∷ (Ok (record { name = text11; value = (Value.Cluster (record { name = text11; shape = (Shape.Aggregate (text12 ∷ [])) })) })) ∷ (Ok (record { name = text12; value = (Value.Cluster (record { name = text12; shape = (Shape.Aggregate (text13 ∷ [])) })) })) ∷ (Ok (record { name = text13; value = (Value.Cluster (record { name = text13; shape = (Shape.Aggregate (text14 ∷ [])) })) })) ∷ (Ok (record { name = text14; value = (Value.Cluster (record { name = text14; shape = (Shape.Aggregate (text15 ∷ [])) })) })) ∷ (Ok (record { name = text15; value = (Value.Cluster (record { name = text15; shape = (Shape.Aggregate (text16 ∷ [])) })) })) ∷ (Ok (record { name = text16; value = (Value.Cluster (record { name = text16; shape = (Shape.Aggregate (text17 ∷ [])) })) })) ∷ (Ok (record { name = text17; value = (Value.Cluster (record { name = text17; shape = (Shape.Aggregate (text18 ∷ [])) })) })) ∷ (Ok (record { name = text18; value = (Value.Cluster (record { name = text18; shape = (Shape.Aggregate (text19 ∷ [])) })) })) ∷ (Ok (record { name = text19; value = (Value.Cluster (record { name = text19; shape = (Shape.Aggregate (text20 ∷ [])) })) })) ∷ (Ok (record { name = text20; value = (Value.Cluster (record { name = text20; shape = (Shape.Aggregate (text21 ∷ [])) })) })) ∷ (Ok (record { name = text21; value = (Value.Cluster (record { name = text21; shape = (Shape.Aggregate (text22 ∷ [])) })) })) ∷ (Ok (record { name = text22; value = (Value.Cluster (record { name = text22; shape = (Shape.Aggregate (text23 ∷ [])) })) })) ∷ (Ok (record { name = text23; value = (Value.Cluster (record { name = text23; shape = (Shape.Aggregate (text24 ∷ [])) })) })) ∷ (Ok (record { name = text24; value = (Value.Cluster (record { name = text24; shape = (Shape.Eds []) })) })) ∷ (Ok (record { name = text1; value = (Value.Cluster (record { name = text1; shape = (Shape.Aggregate (text9 ∷ [])) })) })) ∷ (Ok (record { name = text9; value = (Value.Cluster (record { name = text9; shape = (Shape.Aggregate (text11 ∷ [])) })) })) ∷ (Ok (record { name = text11; value = (Value.Cluster (record { name = text11; shape = (Shape.Aggregate (text12 ∷ [])) })) })) ∷ (Ok (record { name = text12; value = (Value.Cluster (record { name = text12; shape = (Shape.Aggregate (text13 ∷ [])) })) })) ∷ (Ok (record { name = text13; value = (Value.Cluster (record { name = text13; shape = (Shape.Aggregate (text14 ∷ [])) })) })) ∷ (Ok (record { name = text14; value = (Value.Cluster (record { name = text14; shape = (Shape.Aggregate (text15 ∷ [])) })) })) ∷ (Ok (record { name = text15; value = (Value.Cluster (record { name = text15; shape = (Shape.Aggregate (text16 ∷ [])) })) })) ∷ (Ok (record { name = text16; value = (Value.Cluster (record { name = text16; shape = (Shape.Aggregate (text17 ∷ [])) })) })) ∷ (Ok (record { name = text17; value = (Value.Cluster (record { name = text17; shape = (Shape.Aggregate (text18 ∷ [])) })) })) ∷ (Ok (record { name = text18; value = (Value.Cluster (record { name = text18; shape = (Shape.Aggregate (text19 ∷ [])) })) })) ∷ (Ok (record { name = text19; value = (Value.Cluster (record { name = text19; shape = (Shape.Aggregate (text20 ∷ [])) })) })) ∷ (Ok (record { name = text20; value = (Value.Cluster (record { name = text20; shape = (Shape.Aggregate (text21 ∷ [])) })) })) ∷ (Ok (record { name = text21; value = (Value.Cluster (record { name = text21; shape = (Shape.Aggregate (text22 ∷ [])) })) })) ∷ (Ok (record { name = text22; value = (Value.Cluster (record { name = text22; shape = (Shape.Aggregate (text23 ∷ [])) })) })) ∷ (Ok (record { name = text23; value = (Value.Cluster (record { name = text23; shape = (Shape.Aggregate (text24 ∷ [])) })) })) ∷ (Ok (record { name = text24; value = (Value.Cluster (record { name = text24; shape = (Shape.Eds []) })) })) ∷ (Ok (record { name = text1; value = (Value.Cluster (record { name = text1; shape = (Shape.Aggregate (text9 ∷ [])) })) })) ∷ (Ok (record { name = text9; value = (Value.Cluster (record { name = text9; shape = (Shape.Aggregate (text11 ∷ [])) })) })) ∷ (Ok (record { name = text11; value = (Value.Cluster (record { name = text11; shape = (Shape.Aggregate (text12 ∷ [])) })) })) ∷ (Ok (record { name = text12; value = (Value.Cluster (record { name = text12; shape = (Shape.Aggregate (text13 ∷ [])) })) })) ∷ (Ok (record { name = text13; value = (Value.Cluster (record { name = text13; shape = (Shape.Aggregate (text14 ∷ [])) })) })) ∷ (Ok (record { name = text14; value = (Value.Cluster (record { name = text14; shape = (Shape.Aggregate (text15 ∷ [])) })) })) ∷ (Ok (record { name = text15; value = (Value.Cluster (record { name = text15; shape = (Shape.Aggregate (text16 ∷ [])) })) })) ∷ (Ok (record { name = text16; value = (Value.Cluster (record { name = text16; shape = (Shape.Aggregate (text17 ∷ [])) })) })) ∷ (Ok (record { name = text17; value = (Value.Cluster (record { name = text17; shape = (Shape.Aggregate (text18 ∷ [])) })) })) ∷ (Ok (record { name = text18; value = (Value.Cluster (record { name = text18; shape = (Shape.Aggregate (text19 ∷ [])) })) })) ∷ (Ok (record { name = text19; value = (Value.Cluster (record { name = text19; shape = (Shape.Aggregate (text20 ∷ [])) })) })) ∷ (Ok (record { name = text20; value = (Value.Cluster (record { name = text20; shape = (Shape.Aggregate (text21 ∷ [])) })) })) ∷ (Ok (record { name = text21; value = (Value.Cluster (record { name = text21; shape = (Shape.Aggregate (text22 ∷ [])) })) })) ∷ (Ok (record { name = text22; value = (Value.Cluster (record { name = text22; shape = (Shape.Aggregate (text23 ∷ [])) })) })) ∷ (Ok (record { name = text23; value = (Value.Cluster (record { name = text23; shape = (Shape.Aggregate (text24 ∷ [])) })) })) ∷ (Ok (record { name = text24; value = (Value.Cluster (record { name = text24; shape = (Shape.Eds []) })) })) ∷ (Ok (record { name = text1; value = (Value.Cluster (record { name = text1; shape = (Shape.Aggregate (text9 ∷ [])) })) })) ∷ (Ok (record { name = text9; value = (Value.Cluster (record { name = text9; shape = (Shape.Aggregate (text11 ∷ [])) })) })) ∷ (Ok (record { name = text11; value = (Value.Cluster (record { name = text11; shape = (Shape.Aggregate (text12 ∷ [])) })) })) ∷ (Ok (record { name = text12; value = (Value.Cluster (record { name = text12; shape = (Shape.Aggregate (text13 ∷ [])) })) })) ∷ (Ok (record { name = text13; value = (Value.Cluster (record { name = text13; shape = (Shape.Aggregate (text14 ∷ [])) })) })) ∷ (Ok (record { name = text14; value = (Value.Cluster (record { name = text14; shape = (Shape.Aggregate (text15 ∷ [])) })) })) ∷ (Ok (record { name = text15; value = (Value.Cluster (record { name = text15; shape = (Shape.Aggregate (text16 ∷ [])) })) })) ∷ (Ok (record { name = text16; value = (Value.Cluster (record { name = text16; shape = (Shape.Aggregate (text17 ∷ [])) })) })) ∷ (Ok (record { name = text17; value = (Value.Cluster (record { name = text17; shape = (Shape.Aggregate (text18 ∷ [])) })) })) ∷ (Ok (record { name = text18; value = (Value.Cluster (record { name = text18; shape = (Shape.Aggregate (text19 ∷ [])) })) })) ∷ (Ok (record { name = text19; value = (Value.Cluster (record { name = text19; shape = (Shape.Aggregate (text20 ∷ [])) })) })) ∷ (Ok (record { name = text20; value = (Value.Cluster (record { name = text20; shape = (Shape.Aggregate (text21 ∷ [])) })) })) ∷ (Ok (record { name = text21; value = (Value.Cluster (record { name = text21; shape = (Shape.Aggregate (text22 ∷ [])) })) })) ∷ (Ok (record { name = text22; value = (Value.Cluster (record { name = text22; shape = (Shape.Aggregate (text23 ∷ [])) })) })) ∷ (Ok (record { name = text23; value = (Value.Cluster (record { name = text23; shape = (Shape.Aggregate (text24 ∷ [])) })) })) ∷ (Ok (record { name = text24; value = (Value.Cluster (record { name = text24; shape = (Shape.Eds []) })) })) ∷ (Ok (record { name = text1; value = (Value.Cluster (record { name = text1; shape = (Shape.Aggregate (text9 ∷ [])) })) })) ∷ (Ok (record { name = text9; value = (Value.Cluster (record { name = text9; shape = (Shape.Aggregate (text11 ∷ [])) })) })) ∷ (Ok (record { name = text11; value = (Value.Cluster (record { name = text11; shape = (Shape.Aggregate (text12 ∷ [])) })) })) ∷ (Ok (record { name = text12; value = (Value.Cluster (record { name = text12; shape = (Shape.Aggregate (text13 ∷ [])) })) })) ∷ (Ok (record { name = text13; value = (Value.Cluster (record { name = text13; shape = (Shape.Aggregate (text14 ∷ [])) })) })) ∷ (Ok (record { name = text14; value = (Value.Cluster (record { name = text14; shape = (Shape.Aggregate (text15 ∷ [])) })) })) ∷ (Ok (record { name = text15; value = (Value.Cluster (record { name = text15; shape = (Shape.Aggregate (text16 ∷ [])) })) })) ∷ (Ok (record { name = text16; value = (Value.Cluster (record { name = text16; shape = (Shape.Aggregate (text17 ∷ [])) })) })) ∷ (Ok (record { name = text17; value = (Value.Cluster (record { name = text17; shape = (Shape.Aggregate (text18 ∷ [])) })) })) ∷ (Ok (record { name = text18; value = (Value.Cluster (record { name = text18; shape = (Shape.Aggregate (text19 ∷ [])) })) })) ∷ (Ok (record { name = text19; value = (Value.Cluster (record { name = text19; shape = (Shape.Aggregate (text20 ∷ [])) })) })) ∷ (Ok (record { name = text20; value = (Value.Cluster (record { name = text20; shape = (Shape.Aggregate (text21 ∷ [])) })) })) ∷ (Ok (record { name = text21; value = (Value.Cluster (record { name = text21; shape = (Shape.Aggregate (text22 ∷ [])) })) })) ∷ (Ok (record { name = text22; value = (Value.Cluster (record { name = text22; shape = (Shape.Aggregate (text23 ∷ [])) })) })) ∷ (Ok (record { name = text23; value = (Value.Cluster (record { name = text23; shape = (Shape.Aggregate (text24 ∷ [])) })) })) ∷ (Ok (record { name = text24; value = (Value.Cluster (record { name = text24; shape = (Shape.Eds []) })) })) ∷ (Ok (record { name = text1; value = (Value.Cluster (record { name = text1; shape = (Shape.Aggregate (text9 ∷ [])) })) })) ∷ (Ok (record { name = text9; value = (Value.Cluster (record { name = text9; shape = (Shape.Aggregate (text11 ∷ [])) })) })) ∷ (Ok (record { name = text11; value = (Value.Cluster (record { name = text11; shape = (Shape.Aggregate (text12 ∷ [])) })) })) ∷ (Ok (record { name = text12; value = (Value.Cluster (record { name = text12; shape = (Shape.Aggregate (text13 ∷ [])) })) })) ∷ (Ok (record { name = text13; value = (Value.Cluster (record { name = text13; shape = (Shape.Aggregate (text14 ∷ [])) })) })) ∷ (Ok (record { name = text14; value = (Value.Cluster (record { name = text14; shape = (Shape.Aggregate (text15 ∷ [])) })) })) ∷ (Ok (record { name = text15; value = (Value.Cluster (record { name = text15; shape = (Shape.Aggregate (text16 ∷ [])) })) })) ∷ (Ok (record { name = text16; value = (Value.Cluster (record { name = text16; shape = (Shape.Aggregate (text17 ∷ [])) })) })) ∷ (Ok (record { name = text17; value = (Value.Cluster (record { name = text17; shape = (Shape.Aggregate (text18 ∷ [])) })) })) ∷ (Ok (record { name = text18; value = (Value.Cluster (record { name = text18; shape = (Shape.Aggregate (text19 ∷ [])) })) })) ∷ (Ok (record { name = text19; value = (Value.Cluster (record { name = text19; shape = (Shape.Aggregate (text20 ∷ [])) })) })) ∷ (Ok (record { name = text20; value = (Value.Cluster (record { name = text20; shape = (Shape.Aggregate (text21 ∷ [])) })) })) ∷ (Ok (record { name = text21; value = (Value.Cluster (record { name = text21; shape = (Shape.Aggregate (text22 ∷ [])) })) })) ∷ (Ok (record { name = text22; value = (Value.Cluster (record { name = text22; shape = (Shape.Aggregate (text23 ∷ [])) })) })) ∷ (Ok (record { name = text23; value = (Value.Cluster (record { name = text23; shape = (Shape.Aggregate (text24 ∷ [])) })) })) ∷ (Ok (record { name = text24; value = (Value.Cluster (record { name = text24; shape = (Shape.Eds []) })) })) ∷ (Ok (record { name = text1; value = (Value.Cluster (record { name = text1; shape = (Shape.Aggregate (text9 ∷ [])) })) })) ∷ (Ok (record { name = text9; value = (Value.Cluster (record { name = text9; shape = (Shape.Aggregate (text11 ∷ [])) })) })) ∷ (Ok (record { name = text11; value = (Value.Cluster (record { name = text11; shape = (Shape.Aggregate (text12 ∷ [])) })) })) ∷ (Ok (record { name = text12; value = (Value.Cluster (record { name = text12; shape = (Shape.Aggregate (text13 ∷ [])) })) })) ∷ (Ok (record { name = text13; value = (Value.Cluster (record { name = text13; shape = (Shape.Aggregate (text14 ∷ [])) })) })) ∷ (Ok (record { name = text14; value = (Value.Cluster (record { name = text14; shape = (Shape.Aggregate (text15 ∷ [])) })) })) ∷ (Ok (record { name = text15; value = (Value.Cluster (record { name = text15; shape = (Shape.Aggregate (text16 ∷ [])) })) })) ∷ (Ok (record { name = text16; value = (Value.Cluster (record { name = text16; shape = (Shape.Aggregate (text17 ∷ [])) })) })) ∷ (Ok (record { name = text17; value = (Value.Cluster (record { name = text17; shape = (Shape.Aggregate (text18 ∷ [])) })) })) ∷ (Ok (record { name = text18; value = (Value.Cluster (record { name = text18; shape = (Shape.Aggregate (text19 ∷ [])) })) })) ∷ (Ok (record { name = text19; value = (Value.Cluster (record { name = text19; shape = (Shape.Aggregate (text20 ∷ [])) })) })) ∷ (Ok (record { name = text20; value = (Value.Cluster (record { name = text20; shape = (Shape.Aggregate (text21 ∷ [])) })) })) ∷ (Ok (record { name = text21; value = (Value.Cluster (record { name = text21; shape = (Shape.Aggregate (text22 ∷ [])) })) })) ∷ (Ok (record { name = text22; value = (Value.Cluster (record { name = text22; shape = (Shape.Aggregate (text23 ∷ [])) })) })) ∷ (Ok (record { name = text23; value = (Value.Cluster (record { name = text23; shape = (Shape.Aggregate (text24 ∷ [])) })) })) ∷ (Ok (record { name = text24; value = (Value.Cluster (record { name = text24; shape = (Shape.Eds []) })) })) ∷ (Ok (record { name = text1; value = (Value.Cluster (record { name = text1; shape = (Shape.Aggregate (text9 ∷ [])) })) })) ∷ (Ok (record { name = text9; value = (Value.Cluster (record { name = text9; shape = (Shape.Aggregate (text11 ∷ [])) })) })) ∷ (Ok (record { name = text11; value = (Value.Cluster (record { name = text11; shape = (Shape.Aggregate (text12 ∷ [])) })) })) ∷ (Ok (record { name = text12; value = (Value.Cluster (record { name = text12; shape = (Shape.Aggregate (text13 ∷ [])) })) })) ∷ (Ok (record { name = text13; value = (Value.Cluster (record { name = text13; shape = (Shape.Aggregate (text14 ∷ [])) })) })) ∷ (Ok (record { name = text14; value = (Value.Cluster (record { name = text14; shape = (Shape.Aggregate (text15 ∷ [])) })) })) ∷ (Ok (record { name = text15; value = (Value.Cluster (record { name = text15; shape = (Shape.Aggregate (text16 ∷ [])) })) })) ∷ (Ok (record { name = text16; value = (Value.Cluster (record { name = text16; shape = (Shape.Aggregate (text17 ∷ [])) })) })) ∷ (Ok (record { name = text17; value = (Value.Cluster (record { name = text17; shape = (Shape.Aggregate (text18 ∷ [])) })) })) ∷ (Ok (record { name = text18; value = (Value.Cluster (record { name = text18; shape = (Shape.Aggregate (text19 ∷ [])) })) })) ∷ (Ok (record { name = text19; value = (Value.Cluster (record { name = text19; shape = (Shape.Aggregate (text20 ∷ [])) })) })) ∷ (Ok (record { name = text20; value = (Value.Cluster (record { name = text20; shape = (Shape.Aggregate (text21 ∷ [])) })) })) ∷ (Ok (record { name = text21; value = (Value.Cluster (record { name = text21; shape = (Shape.Aggregate (text22 ∷ [])) })) })) ∷ (Ok (record { name = text22; value = (Value.Cluster (record { name = text22; shape = (Shape.Aggregate (text23 ∷ [])) })) })) ∷ (Ok (record { name = text23; value = (Value.Cluster (record { name = text23; shape = (Shape.Aggregate (text24 ∷ [])) })) })) ∷ (Ok (record { name = text24; value = (Value.Cluster (record { name = text24; shape = (Shape.Eds []) })) })) ∷ (Ok (record { name = text1; value = (Value.Cluster (record { name = text1; shape = (Shape.Aggregate (text9 ∷ [])) })) })) ∷ (Ok (record { name = text9; value = (Value.Cluster (record { name = text9; shape = (Shape.Aggregate (text11 ∷ [])) })) })) ∷ (Ok (record { name = text11; value = (Value.Cluster (record { name = text11; shape = (Shape.Aggregate (text12 ∷ [])) })) })) ∷ (Ok (record { name = text12; value = (Value.Cluster (record { name = text12; shape = (Shape.Aggregate (text13 ∷ [])) })) })) ∷ (Ok (record { name = text13; value = (Value.Cluster (record { name = text13; shape = (Shape.Aggregate (text14 ∷ [])) })) })) ∷ (Ok (record { name = text14; value = (Value.Cluster (record { name = text14; shape = (Shape.Aggregate (text15 ∷ [])) })) })) ∷ (Ok (record { name = text15; value = (Value.Cluster (record { name = text15; shape = (Shape.Aggregate (text16 ∷ [])) })) })) ∷ (Ok (record { name = text16; value = (Value.Cluster (record { name = text16; shape = (Shape.Aggregate (text17 ∷ [])) })) })) ∷ (Ok (record { name = text17; value = (Value.Cluster (record { name = text17; shape = (Shape.Aggregate (text18 ∷ [])) })) })) ∷ (Ok (record { name = text18; value = (Value.Cluster (record { name = text18; shape = (Shape.Aggregate (text19 ∷ [])) })) })) ∷ (Ok (record { name = text19; value = (Value.Cluster (record { name = text19; shape = (Shape.Aggregate (text20 ∷ [])) })) })) ∷ (Ok (record { name = text20; value = (Value.Cluster (record { name = text20; shape = (Shape.Aggregate (text21 ∷ [])) })) })) ∷ (Ok (record { name = text21; value = (Value.Cluster (record { name = text21; shape = (Shape.Aggregate (text22 ∷ [])) })) })) ∷ (Ok (record { name = text22; value = (Value.Cluster (record { name = text22; shape = (Shape.Aggregate (text23 ∷ [])) })) })) ∷ (Ok (record { name = text23; value = (Value.Cluster (record { name = text23; shape = (Shape.Aggregate (text24 ∷ [])) })) })) ∷ (Ok (record { name = text24; value = (Value.Cluster (record { name = text24; shape = (Shape.Eds []) })) })) ∷ (Ok (record { name = text1; value = (Value.Cluster (record { name = text1; shape = (Shape.Aggregate (text9 ∷ [])) })) })) ∷ (Ok (record { name = text9; value = (Value.Cluster (record { name = text9; shape = (Shape.Aggregate (text11 ∷ [])) })) })) ∷ (Ok (record { name = text11; value = (Value.Cluster (record { name = text11; shape = (Shape.Aggregate (text12 ∷ [])) })) })) ∷ (Ok (record { name = text12; value = (Value.Cluster (record { name = text12; shape = (Shape.Aggregate (text13 ∷ [])) })) })) ∷ (Ok (record { name = text13; value = (Value.Cluster (record { name = text13; shape = (Shape.Aggregate (text14 ∷ [])) })) })) ∷ (Ok (record { name = text14; value = (Value.Cluster (record { name = text14; shape = (Shape.Aggregate (text15 ∷ [])) })) })) ∷ (Ok (record { name = text15; value = (Value.Cluster (record { name = text15; shape = (Shape.Aggregate (text16 ∷ [])) })) })) ∷ (Ok (record { name = text16; value = (Value.Cluster (record { name = text16; shape = (Shape.Aggregate (text17 ∷ [])) })) })) ∷ (Ok (record { name = text17; value = (Value.Cluster (record { name = text17; shape = (Shape.Aggregate (text18 ∷ [])) })) })) ∷ (Ok (record { name = text18; value = (Value.Cluster (record { name = text18; shape = (Shape.Aggregate (text19 ∷ [])) })) })) ∷ (Ok (record { name = text19; value = (Value.Cluster (record { name = text19; shape = (Shape.Aggregate (text20 ∷ [])) })) })) ∷ (Ok (record { name = text20; value = (Value.Cluster (record { name = text20; shape = (Shape.Aggregate (text21 ∷ [])) })) })) ∷ (Ok (record { name = text21; value = (Value.Cluster (record { name = text21; shape = (Shape.Aggregate (text22 ∷ [])) })) })) ∷ (Ok (record { name = text22; value = (Value.Cluster (record { name = text22; shape = (Shape.Aggregate (text23 ∷ [])) })) })) ∷ (Ok (record { name = text23; value = (Value.Cluster (record { name = text23; shape = (Shape.Aggregate (text24 ∷ [])) })) })) ∷ (Ok (record { name = text24; value = (Value.Cluster (record { name = text24; shape = (Shape.Eds []) })) })) ∷ (Ok (record { name = text1; value = (Value.Cluster (record { name = text1; shape = (Shape.Aggregate (text9 ∷ [])) })) })) ∷ (Ok (record { name = text9; value = (Value.Cluster (record { name = text9; shape = (Shape.Aggregate (text11 ∷ [])) })) })) ∷ (Ok (record { name = text11; value = (Value.Cluster (record { name = text11; shape = (Shape.Aggregate (text12 ∷ [])) })) })) ∷ (Ok (record { name = text12; value = (Value.Cluster (record { name = text12; shape = (Shape.Aggregate (text13 ∷ [])) })) })) ∷ (Ok (record { name = text13; value = (Value.Cluster (record { name = text13; shape = (Shape.Aggregate (text14 ∷ [])) })) })) ∷ (Ok (record { name = text14; value = (Value.Cluster (record { name = text14; shape = (Shape.Aggregate (text15 ∷ [])) })) })) ∷ (Ok (record { name = text15; value = (Value.Cluster (record { name = text15; shape = (Shape.Aggregate (text16 ∷ [])) })) })) ∷ (Ok (record { name = text16; value = (Value.Cluster (record { name = text16; shape = (Shape.Aggregate (text17 ∷ [])) })) })) ∷ (Ok (record { name = text17; value = (Value.Cluster (record { name = text17; shape = (Shape.Aggregate (text18 ∷ [])) })) })) ∷ (Ok (record { name = text18; value = (Value.Cluster (record { name = text18; shape = (Shape.Aggregate (text19 ∷ [])) })) })) ∷ (Ok (record { name = text19; value = (Value.Cluster (record { name = text19; shape = (Shape.Aggregate (text20 ∷ [])) })) })) ∷ (Ok (record { name = text20; value = (Value.Cluster (record { name = text20; shape = (Shape.Aggregate (text21 ∷ [])) })) })) ∷ (Ok (record { name = text21; value = (Value.Cluster (record { name = text21; shape = (Shape.Aggregate (text22 ∷ [])) })) })) ∷ (Ok (record { name = text22; value = (Value.Cluster (record { name = text22; shape = (Shape.Aggregate (text23 ∷ [])) })) })) ∷ (Ok (record { name = text23; value = (Value.Cluster (record { name = text23; shape = (Shape.Aggregate (text24 ∷ [])) })) })) ∷ (Ok (record { name = text24; value = (Value.Cluster (record { name = text24; shape = (Shape.Eds []) })) })) ∷ (Ok (record { name = text24; value = (Value.Endpoint endpoints43) })) ∷ [])

abbrev entry1 : Entry
entry1 = on_line 0 5 (driven (DriverEvent.Opened (record { 0 = 0 })) Verdict.Done (Some (key Kind.Listener text0)) ((record { authority = (record { 0 = 0 }); request = (record { kind = Kind.Listener; version = []; nonce = []; names = (text0 ∷ []); node = (Some a_node); error = None }) }) ∷ []) None ([]))

abbrev entry2 : Entry
entry2 = on_line 0 6 (driven (DriverEvent.Response (record { 0 = 0 }) (0 ∷ [])) (Verdict.Ack Kind.Listener) (Some (key Kind.Cluster text1)) ((record { authority = (record { 0 = 0 }); request = (record { kind = Kind.Listener; version = text2; nonce = text3; names = (text0 ∷ []); node = None; error = None }) }) ∷ (record { authority = (record { 0 = 0 }); request = (record { kind = Kind.Cluster; version = []; nonce = []; names = (text1 ∷ []); node = None; error = None }) }) ∷ []) None ([]))

abbrev entry3 : Entry
entry3 = on_line 0 6 (driven (DriverEvent.Bytes (record { 0 = 0 }) BytesHow.Whole) Verdict.Done (Some (key Kind.Cluster text1)) ([]) None ([]))

abbrev entry4 : Entry
entry4 = on_line 0 7 (driven (DriverEvent.Response (record { 0 = 0 }) (1 ∷ [])) (Verdict.Ack Kind.Cluster) (Some (key Kind.Cluster text9)) ((record { authority = (record { 0 = 0 }); request = (record { kind = Kind.Cluster; version = text2; nonce = text10; names = (text1 ∷ text9 ∷ []); node = None; error = None }) }) ∷ []) None ([]))

abbrev entry5 : Entry
entry5 = on_line 0 7 (driven (DriverEvent.Bytes (record { 0 = 0 }) BytesHow.Whole) Verdict.Done (Some (key Kind.Cluster text9)) ([]) None ([]))

abbrev entry6 : Entry
entry6 = on_line 0 8 (driven (DriverEvent.Response (record { 0 = 0 }) (2 ∷ [])) (Verdict.Ack Kind.Cluster) (Some (key Kind.Cluster text11)) ((record { authority = (record { 0 = 0 }); request = (record { kind = Kind.Cluster; version = text2; nonce = text25; names = (text1 ∷ text9 ∷ text11 ∷ []); node = None; error = None }) }) ∷ []) None ([]))

abbrev entry7 : Entry
entry7 = on_line 0 8 (driven (DriverEvent.Bytes (record { 0 = 0 }) BytesHow.Whole) Verdict.Done (Some (key Kind.Cluster text11)) ([]) None ([]))

abbrev entry8 : Entry
entry8 = on_line 0 9 (driven (DriverEvent.Response (record { 0 = 0 }) (3 ∷ [])) (Verdict.Ack Kind.Cluster) (Some (key Kind.Cluster text12)) ((record { authority = (record { 0 = 0 }); request = (record { kind = Kind.Cluster; version = text2; nonce = text26; names = (text1 ∷ text9 ∷ text11 ∷ text12 ∷ []); node = None; error = None }) }) ∷ []) None ([]))

abbrev entry9 : Entry
entry9 = on_line 0 9 (driven (DriverEvent.Bytes (record { 0 = 0 }) BytesHow.Whole) Verdict.Done (Some (key Kind.Cluster text12)) ([]) None ([]))

abbrev entry10 : Entry
entry10 = on_line 0 10 (driven (DriverEvent.Response (record { 0 = 0 }) (4 ∷ [])) (Verdict.Ack Kind.Cluster) (Some (key Kind.Cluster text13)) ((record { authority = (record { 0 = 0 }); request = (record { kind = Kind.Cluster; version = text2; nonce = text27; names = (text1 ∷ text9 ∷ text11 ∷ text12 ∷ text13 ∷ []); node = None; error = None }) }) ∷ []) None ([]))

abbrev entry11 : Entry
entry11 = on_line 0 10 (driven (DriverEvent.Bytes (record { 0 = 0 }) BytesHow.Whole) Verdict.Done (Some (key Kind.Cluster text13)) ([]) None ([]))

abbrev entry12 : Entry
entry12 = on_line 0 11 (driven (DriverEvent.Response (record { 0 = 0 }) (5 ∷ [])) (Verdict.Ack Kind.Cluster) (Some (key Kind.Cluster text14)) ((record { authority = (record { 0 = 0 }); request = (record { kind = Kind.Cluster; version = text2; nonce = text28; names = (text1 ∷ text9 ∷ text11 ∷ text12 ∷ text13 ∷ text14 ∷ []); node = None; error = None }) }) ∷ []) None ([]))

abbrev entry13 : Entry
entry13 = on_line 0 11 (driven (DriverEvent.Bytes (record { 0 = 0 }) BytesHow.Whole) Verdict.Done (Some (key Kind.Cluster text14)) ([]) None ([]))

abbrev entry14 : Entry
entry14 = on_line 0 12 (driven (DriverEvent.Response (record { 0 = 0 }) (6 ∷ [])) (Verdict.Ack Kind.Cluster) (Some (key Kind.Cluster text15)) ((record { authority = (record { 0 = 0 }); request = (record { kind = Kind.Cluster; version = text2; nonce = text29; names = (text1 ∷ text9 ∷ text11 ∷ text12 ∷ text13 ∷ text14 ∷ text15 ∷ []); node = None; error = None }) }) ∷ []) None ([]))

abbrev entry15 : Entry
entry15 = on_line 0 12 (driven (DriverEvent.Bytes (record { 0 = 0 }) BytesHow.Whole) Verdict.Done (Some (key Kind.Cluster text15)) ([]) None ([]))

abbrev entry16 : Entry
entry16 = on_line 0 13 (driven (DriverEvent.Response (record { 0 = 0 }) (7 ∷ [])) (Verdict.Ack Kind.Cluster) (Some (key Kind.Cluster text16)) ((record { authority = (record { 0 = 0 }); request = (record { kind = Kind.Cluster; version = text2; nonce = text30; names = (text1 ∷ text9 ∷ text11 ∷ text12 ∷ text13 ∷ text14 ∷ text15 ∷ text16 ∷ []); node = None; error = None }) }) ∷ []) None ([]))

abbrev entry17 : Entry
entry17 = on_line 0 13 (driven (DriverEvent.Bytes (record { 0 = 0 }) BytesHow.Whole) Verdict.Done (Some (key Kind.Cluster text16)) ([]) None ([]))

abbrev entry18 : Entry
entry18 = on_line 0 14 (driven (DriverEvent.Response (record { 0 = 0 }) (8 ∷ [])) (Verdict.Ack Kind.Cluster) (Some (key Kind.Cluster text17)) ((record { authority = (record { 0 = 0 }); request = (record { kind = Kind.Cluster; version = text2; nonce = text31; names = (text1 ∷ text9 ∷ text11 ∷ text12 ∷ text13 ∷ text14 ∷ text15 ∷ text16 ∷ text17 ∷ []); node = None; error = None }) }) ∷ []) None ([]))

abbrev entry19 : Entry
entry19 = on_line 0 14 (driven (DriverEvent.Bytes (record { 0 = 0 }) BytesHow.Whole) Verdict.Done (Some (key Kind.Cluster text17)) ([]) None ([]))

abbrev entry20 : Entry
entry20 = on_line 0 15 (driven (DriverEvent.Response (record { 0 = 0 }) (9 ∷ [])) (Verdict.Ack Kind.Cluster) (Some (key Kind.Cluster text18)) ((record { authority = (record { 0 = 0 }); request = (record { kind = Kind.Cluster; version = text2; nonce = text32; names = (text1 ∷ text9 ∷ text11 ∷ text12 ∷ text13 ∷ text14 ∷ text15 ∷ text16 ∷ text17 ∷ text18 ∷ []); node = None; error = None }) }) ∷ []) None ([]))

abbrev entry21 : Entry
entry21 = on_line 0 15 (driven (DriverEvent.Bytes (record { 0 = 0 }) BytesHow.Whole) Verdict.Done (Some (key Kind.Cluster text18)) ([]) None ([]))

abbrev entry22 : Entry
entry22 = on_line 0 16 (driven (DriverEvent.Response (record { 0 = 0 }) (10 ∷ [])) (Verdict.Ack Kind.Cluster) (Some (key Kind.Cluster text19)) ((record { authority = (record { 0 = 0 }); request = (record { kind = Kind.Cluster; version = text2; nonce = text33; names = (text1 ∷ text9 ∷ text19 ∷ text11 ∷ text12 ∷ text13 ∷ text14 ∷ text15 ∷ text16 ∷ text17 ∷ text18 ∷ []); node = None; error = None }) }) ∷ []) None ([]))

abbrev entry23 : Entry
entry23 = on_line 0 16 (driven (DriverEvent.Bytes (record { 0 = 0 }) BytesHow.Whole) Verdict.Done (Some (key Kind.Cluster text19)) ([]) None ([]))

abbrev entry24 : Entry
entry24 = on_line 0 17 (driven (DriverEvent.Response (record { 0 = 0 }) (11 ∷ [])) (Verdict.Ack Kind.Cluster) (Some (key Kind.Cluster text20)) ((record { authority = (record { 0 = 0 }); request = (record { kind = Kind.Cluster; version = text2; nonce = text34; names = (text1 ∷ text9 ∷ text19 ∷ text20 ∷ text11 ∷ text12 ∷ text13 ∷ text14 ∷ text15 ∷ text16 ∷ text17 ∷ text18 ∷ []); node = None; error = None }) }) ∷ []) None ([]))

abbrev entry25 : Entry
entry25 = on_line 0 17 (driven (DriverEvent.Bytes (record { 0 = 0 }) BytesHow.Whole) Verdict.Done (Some (key Kind.Cluster text20)) ([]) None ([]))

abbrev entry26 : Entry
entry26 = on_line 0 18 (driven (DriverEvent.Response (record { 0 = 0 }) (12 ∷ [])) (Verdict.Ack Kind.Cluster) (Some (key Kind.Cluster text21)) ((record { authority = (record { 0 = 0 }); request = (record { kind = Kind.Cluster; version = text2; nonce = text35; names = (text1 ∷ text9 ∷ text19 ∷ text20 ∷ text21 ∷ text11 ∷ text12 ∷ text13 ∷ text14 ∷ text15 ∷ text16 ∷ text17 ∷ text18 ∷ []); node = None; error = None }) }) ∷ []) None ([]))

abbrev entry27 : Entry
entry27 = on_line 0 18 (driven (DriverEvent.Bytes (record { 0 = 0 }) BytesHow.Whole) Verdict.Done (Some (key Kind.Cluster text21)) ([]) None ([]))

abbrev entry28 : Entry
entry28 = on_line 0 19 (driven (DriverEvent.Response (record { 0 = 0 }) (13 ∷ [])) (Verdict.Ack Kind.Cluster) (Some (key Kind.Cluster text22)) ((record { authority = (record { 0 = 0 }); request = (record { kind = Kind.Cluster; version = text2; nonce = text36; names = (text1 ∷ text9 ∷ text19 ∷ text20 ∷ text21 ∷ text22 ∷ text11 ∷ text12 ∷ text13 ∷ text14 ∷ text15 ∷ text16 ∷ text17 ∷ text18 ∷ []); node = None; error = None }) }) ∷ []) None ([]))

abbrev entry29 : Entry
entry29 = on_line 0 19 (driven (DriverEvent.Bytes (record { 0 = 0 }) BytesHow.Whole) Verdict.Done (Some (key Kind.Cluster text22)) ([]) None ([]))

abbrev entry30 : Entry
entry30 = on_line 0 20 (driven (DriverEvent.Response (record { 0 = 0 }) (14 ∷ [])) (Verdict.Ack Kind.Cluster) (Some (key Kind.Cluster text23)) ((record { authority = (record { 0 = 0 }); request = (record { kind = Kind.Cluster; version = text2; nonce = text37; names = (text1 ∷ text9 ∷ text19 ∷ text20 ∷ text21 ∷ text22 ∷ text23 ∷ text11 ∷ text12 ∷ text13 ∷ text14 ∷ text15 ∷ text16 ∷ text17 ∷ text18 ∷ []); node = None; error = None }) }) ∷ []) None ([]))

abbrev entry31 : Entry
entry31 = on_line 0 20 (driven (DriverEvent.Bytes (record { 0 = 0 }) BytesHow.Whole) Verdict.Done (Some (key Kind.Cluster text23)) ([]) None ([]))

abbrev entry32 : Entry
entry32 = on_line 0 21 (driven (DriverEvent.Response (record { 0 = 0 }) (15 ∷ [])) (Verdict.Ack Kind.Cluster) (Some (key Kind.Cluster text24)) ((record { authority = (record { 0 = 0 }); request = (record { kind = Kind.Cluster; version = text2; nonce = text38; names = (text1 ∷ text9 ∷ text19 ∷ text20 ∷ text21 ∷ text22 ∷ text23 ∷ text24 ∷ text11 ∷ text12 ∷ text13 ∷ text14 ∷ text15 ∷ text16 ∷ text17 ∷ text18 ∷ []); node = None; error = None }) }) ∷ []) None ([]))

abbrev entry33 : Entry
entry33 = on_line 0 21 (driven (DriverEvent.Bytes (record { 0 = 0 }) BytesHow.Whole) Verdict.Done (Some (key Kind.Cluster text24)) ([]) None ([]))

abbrev entry34 : Entry
entry34 = on_line 0 22 (driven (DriverEvent.Response (record { 0 = 0 }) (16 ∷ [])) (Verdict.Ack Kind.Cluster) (Some (key Kind.Endpoint text24)) ((record { authority = (record { 0 = 0 }); request = (record { kind = Kind.Cluster; version = text2; nonce = text39; names = (text1 ∷ text9 ∷ text19 ∷ text20 ∷ text21 ∷ text22 ∷ text23 ∷ text24 ∷ text11 ∷ text12 ∷ text13 ∷ text14 ∷ text15 ∷ text16 ∷ text17 ∷ text18 ∷ []); node = None; error = None }) }) ∷ (record { authority = (record { 0 = 0 }); request = (record { kind = Kind.Endpoint; version = []; nonce = []; names = (text24 ∷ []); node = None; error = None }) }) ∷ []) None ([]))

abbrev entry35 : Entry
entry35 = on_line 0 22 (driven (DriverEvent.Bytes (record { 0 = 0 }) BytesHow.Whole) Verdict.Done (Some (key Kind.Endpoint text24)) ([]) None ([]))

abbrev entry36 : Entry
entry36 = on_line 0 23 (driven (DriverEvent.Response (record { 0 = 0 }) (17 ∷ [])) (Verdict.Ack Kind.Endpoint) None ((record { authority = (record { 0 = 0 }); request = (record { kind = Kind.Endpoint; version = text2; nonce = text40; names = (text24 ∷ []); node = None; error = None }) }) ∷ []) (Some 1) ([]))

abbrev entry37 : Entry
entry37 = on_line 0 23 (driven (DriverEvent.Bytes (record { 0 = 0 }) BytesHow.Whole) Verdict.Done None ([]) None ([]))

abbrev entry38 : Entry
entry38 = on_line 0 0 (driven DriverEvent.Sweep Verdict.Done None ([]) None ([]))

abbrev snapshot1 : Snapshot
snapshot1 = (record { number = 1; config = (record { front = (Ok (record { listener = text0; routes = routes8; host = 0 })); clusters = ((record { name = text1; state = (Ok (record { aggregate = true; leaves = ((record { name = text24; state = (Ok endpoints43) }) ∷ []) })) }) ∷ []) }); trees = ((Ok (record { children = ((record { leaf = text24; priority = 0; view = (record { there = true; state = State.Connecting; pending = true; unused = false }) }) ∷ []); chosen = 0; waiting = None; picker = (record { drops = ([]); body = PickBody.Queue }) })) ∷ []) })

-- the newest first
abbrev history : List Entry
history = entry38 ∷ entry37 ∷ entry36 ∷ entry35 ∷ entry34 ∷ entry33 ∷ entry32 ∷ entry31 ∷ entry30 ∷ entry29 ∷ entry28 ∷ entry27 ∷ entry26 ∷ entry25 ∷ entry24 ∷ entry23 ∷ entry22 ∷ entry21 ∷ entry20 ∷ entry19 ∷ entry18 ∷ entry17 ∷ entry16 ∷ entry15 ∷ entry14 ∷ entry13 ∷ entry12 ∷ entry11 ∷ entry10 ∷ entry9 ∷ entry8 ∷ entry7 ∷ entry6 ∷ entry5 ∷ entry4 ∷ entry3 ∷ entry2 ∷ entry1 ∷ []

replies : replayed set ([]) history ≡ as_made history
unfolding leaves_within goes_on ends
replies = refl

published : snapshots set history ≡ snapshot1 ∷ []
unfolding leaves_within goes_on ends
published = refl

-- what stands at each driver's entry, and its number: seen where the first snapshot isn't 1, where one is published that
-- shows nothing new, or where one that does isn't
abbrev told : List Step
told = ((record { stands = (Some (shown snapshot1)); last = (Some snapshot1); number = None }) ∷ (record { stands = (Some (shown snapshot1)); last = (Some snapshot1); number = None }) ∷ (record { stands = (Some (shown snapshot1)); last = None; number = (Some 1) }) ∷ (record { stands = None; last = None; number = None }) ∷ (record { stands = None; last = None; number = None }) ∷ (record { stands = None; last = None; number = None }) ∷ (record { stands = None; last = None; number = None }) ∷ (record { stands = None; last = None; number = None }) ∷ (record { stands = None; last = None; number = None }) ∷ (record { stands = None; last = None; number = None }) ∷ (record { stands = None; last = None; number = None }) ∷ (record { stands = None; last = None; number = None }) ∷ (record { stands = None; last = None; number = None }) ∷ (record { stands = None; last = None; number = None }) ∷ (record { stands = None; last = None; number = None }) ∷ (record { stands = None; last = None; number = None }) ∷ (record { stands = None; last = None; number = None }) ∷ (record { stands = None; last = None; number = None }) ∷ (record { stands = None; last = None; number = None }) ∷ (record { stands = None; last = None; number = None }) ∷ (record { stands = None; last = None; number = None }) ∷ (record { stands = None; last = None; number = None }) ∷ (record { stands = None; last = None; number = None }) ∷ (record { stands = None; last = None; number = None }) ∷ (record { stands = None; last = None; number = None }) ∷ (record { stands = None; last = None; number = None }) ∷ (record { stands = None; last = None; number = None }) ∷ (record { stands = None; last = None; number = None }) ∷ (record { stands = None; last = None; number = None }) ∷ (record { stands = None; last = None; number = None }) ∷ (record { stands = None; last = None; number = None }) ∷ (record { stands = None; last = None; number = None }) ∷ (record { stands = None; last = None; number = None }) ∷ (record { stands = None; last = None; number = None }) ∷ (record { stands = None; last = None; number = None }) ∷ (record { stands = None; last = None; number = None }) ∷ (record { stands = None; last = None; number = None }) ∷ (record { stands = None; last = None; number = None }) ∷ [])

stood : steps set history ≡ told
unfolding leaves_within goes_on ends
stood = refl

numbered : AreNumbered told
numbered = (refl, (refl, (refl, (refl, (refl, (refl, (refl, (refl, (refl, (refl, (refl, (refl, (refl, (refl, (refl, (refl, (refl, (refl, (refl, (refl, (refl, (refl, (refl, (refl, (refl, (refl, (refl, (refl, (refl, (refl, (refl, (refl, (refl, (refl, (refl, (refl, (refl, (refl, tt))))))))))))))))))))))))))))))))))))))

abbrev line5 : Line
line5 = (record { number = 5; gate = None; work = (Work.Driver (DriverLine.Opened (record { 0 = 0 }))) })

abbrev line6 : Line
line6 = (record { number = 6; gate = None; work = (Work.Driver (DriverLine.Bytes (record { 0 = 0 }) (0 ∷ 0 ∷ 0 ∷ 0 ∷ 1 ∷ 0 ∷ []))) })

abbrev line7 : Line
line7 = (record { number = 7; gate = None; work = (Work.Driver (DriverLine.Bytes (record { 0 = 0 }) (0 ∷ 0 ∷ 0 ∷ 0 ∷ 1 ∷ 1 ∷ []))) })

abbrev line8 : Line
line8 = (record { number = 8; gate = None; work = (Work.Driver (DriverLine.Bytes (record { 0 = 0 }) (0 ∷ 0 ∷ 0 ∷ 0 ∷ 1 ∷ 2 ∷ []))) })

abbrev line9 : Line
line9 = (record { number = 9; gate = None; work = (Work.Driver (DriverLine.Bytes (record { 0 = 0 }) (0 ∷ 0 ∷ 0 ∷ 0 ∷ 1 ∷ 3 ∷ []))) })

abbrev line10 : Line
line10 = (record { number = 10; gate = None; work = (Work.Driver (DriverLine.Bytes (record { 0 = 0 }) (0 ∷ 0 ∷ 0 ∷ 0 ∷ 1 ∷ 4 ∷ []))) })

abbrev line11 : Line
line11 = (record { number = 11; gate = None; work = (Work.Driver (DriverLine.Bytes (record { 0 = 0 }) (0 ∷ 0 ∷ 0 ∷ 0 ∷ 1 ∷ 5 ∷ []))) })

abbrev line12 : Line
line12 = (record { number = 12; gate = None; work = (Work.Driver (DriverLine.Bytes (record { 0 = 0 }) (0 ∷ 0 ∷ 0 ∷ 0 ∷ 1 ∷ 6 ∷ []))) })

abbrev line13 : Line
line13 = (record { number = 13; gate = None; work = (Work.Driver (DriverLine.Bytes (record { 0 = 0 }) (0 ∷ 0 ∷ 0 ∷ 0 ∷ 1 ∷ 7 ∷ []))) })

abbrev line14 : Line
line14 = (record { number = 14; gate = None; work = (Work.Driver (DriverLine.Bytes (record { 0 = 0 }) (0 ∷ 0 ∷ 0 ∷ 0 ∷ 1 ∷ 8 ∷ []))) })

abbrev line15 : Line
line15 = (record { number = 15; gate = None; work = (Work.Driver (DriverLine.Bytes (record { 0 = 0 }) (0 ∷ 0 ∷ 0 ∷ 0 ∷ 1 ∷ 9 ∷ []))) })

abbrev line16 : Line
line16 = (record { number = 16; gate = None; work = (Work.Driver (DriverLine.Bytes (record { 0 = 0 }) (0 ∷ 0 ∷ 0 ∷ 0 ∷ 1 ∷ 10 ∷ []))) })

abbrev line17 : Line
line17 = (record { number = 17; gate = None; work = (Work.Driver (DriverLine.Bytes (record { 0 = 0 }) (0 ∷ 0 ∷ 0 ∷ 0 ∷ 1 ∷ 11 ∷ []))) })

abbrev line18 : Line
line18 = (record { number = 18; gate = None; work = (Work.Driver (DriverLine.Bytes (record { 0 = 0 }) (0 ∷ 0 ∷ 0 ∷ 0 ∷ 1 ∷ 12 ∷ []))) })

abbrev line19 : Line
line19 = (record { number = 19; gate = None; work = (Work.Driver (DriverLine.Bytes (record { 0 = 0 }) (0 ∷ 0 ∷ 0 ∷ 0 ∷ 1 ∷ 13 ∷ []))) })

abbrev line20 : Line
line20 = (record { number = 20; gate = None; work = (Work.Driver (DriverLine.Bytes (record { 0 = 0 }) (0 ∷ 0 ∷ 0 ∷ 0 ∷ 1 ∷ 14 ∷ []))) })

abbrev line21 : Line
line21 = (record { number = 21; gate = None; work = (Work.Driver (DriverLine.Bytes (record { 0 = 0 }) (0 ∷ 0 ∷ 0 ∷ 0 ∷ 1 ∷ 15 ∷ []))) })

abbrev line22 : Line
line22 = (record { number = 22; gate = None; work = (Work.Driver (DriverLine.Bytes (record { 0 = 0 }) (0 ∷ 0 ∷ 0 ∷ 0 ∷ 1 ∷ 16 ∷ []))) })

abbrev line23 : Line
line23 = (record { number = 23; gate = None; work = (Work.Driver (DriverLine.Bytes (record { 0 = 0 }) (0 ∷ 0 ∷ 0 ∷ 0 ∷ 1 ∷ 17 ∷ []))) })

abbrev lines : List Line
lines = line5 ∷ line6 ∷ line7 ∷ line8 ∷ line9 ∷ line10 ∷ line11 ∷ line12 ∷ line13 ∷ line14 ∷ line15 ∷ line16 ∷ line17 ∷ line18 ∷ line19 ∷ line20 ∷ line21 ∷ line22 ∷ line23 ∷ []

-- the oldest first
abbrev entries : List Entry
entries = entry1 ∷ entry2 ∷ entry3 ∷ entry4 ∷ entry5 ∷ entry6 ∷ entry7 ∷ entry8 ∷ entry9 ∷ entry10 ∷ entry11 ∷ entry12 ∷ entry13 ∷ entry14 ∷ entry15 ∷ entry16 ∷ entry17 ∷ entry18 ∷ entry19 ∷ entry20 ∷ entry21 ∷ entry22 ∷ entry23 ∷ entry24 ∷ entry25 ∷ entry26 ∷ entry27 ∷ entry28 ∷ entry29 ∷ entry30 ∷ entry31 ∷ entry32 ∷ entry33 ∷ entry34 ∷ entry35 ∷ entry36 ∷ entry37 ∷ entry38 ∷ []

-- each line's events once and in order: seen where a line is left out, or comes twice
each : (caller : ℕ) → 1 ≤ caller → caller ≤ 1 → ArePlayed (lines_by caller lines) (entries_by caller entries)
each zero low high = absurd (omega (arith, low))
each (suc zero) low high = all
each (suc (suc n)) low high = absurd (omega (arith, high))

-- seen where the driver lists nothing, no responses, or not the last sweep
listed : AreListed (is_read set) 1 lines entries
unfolding driver_list cut cut_within first_frame fault_at
listed = record { driver = refl; each_caller = each; actors = All-from_recursion (λ entry. entry.actor ≤ 1) entries (at_most 0 1 refl, (at_most 0 1 refl, (at_most 0 1 refl, (at_most 0 1 refl, (at_most 0 1 refl, (at_most 0 1 refl, (at_most 0 1 refl, (at_most 0 1 refl, (at_most 0 1 refl, (at_most 0 1 refl, (at_most 0 1 refl, (at_most 0 1 refl, (at_most 0 1 refl, (at_most 0 1 refl, (at_most 0 1 refl, (at_most 0 1 refl, (at_most 0 1 refl, (at_most 0 1 refl, (at_most 0 1 refl, (at_most 0 1 refl, (at_most 0 1 refl, (at_most 0 1 refl, (at_most 0 1 refl, (at_most 0 1 refl, (at_most 0 1 refl, (at_most 0 1 refl, (at_most 0 1 refl, (at_most 0 1 refl, (at_most 0 1 refl, (at_most 0 1 refl, (at_most 0 1 refl, (at_most 0 1 refl, (at_most 0 1 refl, (at_most 0 1 refl, (at_most 0 1 refl, (at_most 0 1 refl, (at_most 0 1 refl, (at_most 0 1 refl, tt)))))))))))))))))))))))))))))))))))))) }

started1 : AreStarted (entries_by 1 entries)
started1 = tt

-- seen where a line's end isn't told, so that a gate stays shut
opened : AreOpen lines history
opened = (tt, (tt, (tt, (tt, (tt, (tt, (tt, (tt, (tt, (tt, (tt, (tt, (tt, (tt, (tt, (tt, (tt, (tt, (tt, (tt, (tt, (tt, (tt, (tt, (tt, (tt, (tt, (tt, (tt, (tt, (tt, (tt, (tt, (tt, (tt, (tt, (tt, (tt, tt))))))))))))))))))))))))))))))))))))))

swept : EndsInSweep history
swept = refl
