-- The line of a caller's entry, behind its numbers. Beside it stands what its reply leads to: the snapshot that it names,
-- and for a pick the cluster that the call held before the entry.
use Rattle.std.specs.Prelude.{ℕ, ◌-◌, ◌++◌, ◌==◌, List, [], Option, Some, None, option_map, option_and_then, unwrap_or, Result, Ok, Err, codes, find, slice_get}
use Rattle.std.specs.Fmt.{decimal}
use Rattle.xc_base.specs.Reasons.{reason_word}
use Rattle.xc_base.specs.declared.reason.Reason.{Reason}
use Rattle.xds_config.specs.declared.config.Front.{Front}
use Rattle.xds_config.specs.Configs.{cluster_place}
use Rattle.weighted_lb.specs.declared.picker.Part.{Part}
use Rattle.weighted_lb.specs.declared.picker.Picker.{Picker}
use Rattle.weighted_lb.specs.declared.picker.PickBody.{PickBody}
use Rattle.weighted_lb.specs.declared.picker.PickBody.TheVariants as body
use Rattle.route_match.specs.declared.answer.RouteAnswer.{RouteAnswer}
use Rattle.route_match.specs.declared.answer.RouteAnswer.TheVariants.{To, NoRoute, NoAction, NoFront}
use Rattle.route_match.specs.NamedClusters.{answer_cluster}
use Rattle.cluster_tree.specs.declared.snapshot.Snapshot.{Snapshot}
use Rattle.tree_steps.specs.declared.tree_view.TreeView.{TreeView}
use Rattle.call_journal.specs.declared.event.CallerEvent.{CallerEvent}
use Rattle.call_journal.specs.declared.event.CallerEvent.TheVariants.{Pin, Hold, Pick, Commit}
use Rattle.call_journal.specs.declared.reply.CallerReply.{CallerReply}
use Rattle.call_journal.specs.declared.reply.CallerReply.TheVariants as reply
use Rattle.report_parts.specs.ReportWords.{name_text}

abbrev pub caller_event_text : CallerEvent → List ℕ
caller_event_text (Pin call) = codes "pin " ++ decimal call.id.0
caller_event_text (Hold call) = codes "hold " ++ decimal call.id.0
caller_event_text (Pick id word) = codes "pick " ++ decimal id.0
caller_event_text (Commit id) = codes "commit " ++ decimal id.0

abbrev pub at_text : ℕ → List ℕ
at_text snapshot = codes " at " ++ decimal snapshot

-- ---- where a call goes

abbrev pub cluster_of_front : Result Front Reason → RouteAnswer → Option (List ℕ)
cluster_of_front (Ok front) answer = answer_cluster front answer
cluster_of_front (Err reason) answer = None

-- the cluster that an answer leads to in a snapshot
abbrev pub cluster_in : Option Snapshot → RouteAnswer → Option (List ℕ)
cluster_in snapshot answer = option_and_then (λ s. cluster_of_front s.config.front answer) snapshot

abbrev pub answer_text : Option Snapshot → RouteAnswer → List ℕ
answer_text s (To route choice) = codes "to " ++ decimal route ++ codes " " ++ name_text (cluster_in s (To route choice))
answer_text s NoRoute = codes "noroute"
answer_text s (NoAction route) = codes "noaction " ++ decimal route
answer_text s (NoFront reason) = codes "nofront " ++ reason_word reason

-- ---- what a call picks

abbrev pub picker_of_tree : Result TreeView Reason → Option Picker
picker_of_tree (Ok tree) = Some tree.picker
picker_of_tree (Err reason) = None

-- the picker of a cluster's trees in a snapshot
unfoldable pub picker_of_cluster : Snapshot → List ℕ → Option Picker
picker_of_cluster s cluster =
    option_and_then (λ place. option_and_then picker_of_tree (slice_get s.trees place)) (cluster_place s.config cluster)

abbrev pub picker_in : Option Snapshot → Option (List ℕ) → Option Picker
picker_in snapshot cluster = option_and_then (λ s. option_and_then (picker_of_cluster s) cluster) snapshot

abbrev pub parts_of : PickBody → List Part
parts_of (body.Ready parts sums) = parts
parts_of body.Queue = []
parts_of (body.Fail reason) = []

-- the READY endpoint at a place, from 0, of the locality of this number
abbrev pub address_of : Picker → ℕ → ℕ → Option (List ℕ)
address_of picker locality place =
    option_and_then (λ part. slice_get part.ready place) (find (λ part. part.locality == locality) (parts_of picker.body))

-- the category of the drop rule of this number, from 1
abbrev pub category_of : Picker → ℕ → Option (List ℕ)
category_of picker rule = option_map (λ drop. drop.category) (slice_get picker.drops (rule - 1))

abbrev pub endpoint_reply : Option Picker → ℕ → ℕ → ℕ → ℕ → List ℕ
endpoint_reply picker n child locality place =
    codes "endpoint " ++ unwrap_or (option_and_then (λ p. address_of p locality place) picker) [] ++ at_text n
    ++ codes " child " ++ decimal child ++ codes " locality " ++ decimal locality ++ codes " place " ++ decimal place

abbrev pub drop_reply : Option Picker → ℕ → ℕ → List ℕ
drop_reply picker n rule = codes "drop " ++ name_text (option_and_then (λ p. category_of p rule) picker) ++ at_text n

-- ---- the line

abbrev pub caller_reply_text : Option Snapshot → Option (List ℕ) → CallerReply → List ℕ
caller_reply_text s cluster (reply.Pinned n) = codes "at " ++ decimal n
caller_reply_text s cluster reply.NoSnapshot = codes "nosnapshot"
caller_reply_text s cluster (reply.Routed n answer) = answer_text s answer ++ at_text n
caller_reply_text s cluster (reply.Endpoint n child locality place) = endpoint_reply (picker_in s cluster) n child locality place
caller_reply_text s cluster (reply.Queue n) = codes "queue" ++ at_text n
caller_reply_text s cluster (reply.Fail n reason) = codes "fail " ++ reason_word reason ++ at_text n
caller_reply_text s cluster (reply.Drop n rule) = drop_reply (picker_in s cluster) n rule
caller_reply_text s cluster reply.NotHeld = codes "notheld"
caller_reply_text s cluster reply.Released = codes "released"

unfoldable pub caller_line : Option Snapshot → Option (List ℕ) → ℕ → CallerEvent → CallerReply → List ℕ
caller_line s cluster actor event r =
    codes "c" ++ decimal actor ++ codes " " ++ caller_event_text event ++ codes " " ++ caller_reply_text s cluster r ++ codes "\n"
