-- What a pick is answered (gRPC's drop policy, weighted_target and round_robin, with this project's own draws).
use Rattle.std.specs.Prelude.{ℕ, ◌+◌, ◌%◌, List, [], ◌∷◌, length, Bool, false, ◌&&◌, if◌then◌else◌, Option, Some, None, Result, Ok, Err, option_map, option_and_then, slice_get}
use Rattle.std.specs.Option.{option_map_or}
use Rattle.std.specs.Str.{bytes_eq}
use Rattle.xc_base.specs.declared.names.CallId.{CallId}
use Rattle.xc_base.specs.declared.reason.Reason.{Reason}
use Rattle.xds_config.specs.declared.endpoint_values.Locality.{Locality}
use Rattle.xds_config.specs.declared.endpoint_values.LocalityId.{LocalityId}
use Rattle.xds_config.specs.Configs.{cluster_place}
use Rattle.weighted_lb.specs.declared.picker.Part.{Part}
use Rattle.weighted_lb.specs.declared.picker.PickBody.{PickBody}
use Rattle.weighted_lb.specs.declared.picker.Chosen.{Chosen}
use Rattle.weighted_lb.specs.Pick.{choice}
use Rattle.priority_lb.specs.ChildHistories as children
use Rattle.tree_steps.specs.declared.tree_view.TreeView.{TreeView}
use Rattle.cluster_tree.specs.declared.snapshot.Snapshot.{Snapshot}
use Rattle.call_journal.specs.declared.event.CallerEvent.{CallerEvent}
use Rattle.call_journal.specs.declared.reply.CallerReply.{CallerReply}
use Rattle.call_journal.specs.declared.entry.What.{What}
use Rattle.config_assembly.specs.Orders.{Name}
use Rattle.xds_history.specs.declared.page.Page.{Page}
use Rattle.xds_history.specs.declared.page.Tree.{Tree}
use Rattle.xds_history.specs.declared.page.ClusterTrees.{ClusterTrees}
use Rattle.xds_history.specs.Page.{trees_now, latest}
use Rattle.xds_history.specs.References.{held}
use Rattle.xds_history.specs.Trees.{children_now, trees_of}
use Rattle.xds_history.specs.Pickers.{child_localities}

-- ---- turns

-- whose endpoints take turns: a locality in a priority of a leaf of a cluster
pub record Place : Type 0 where
  pub cluster : Name
  pub child : children.Name
  pub locality : LocalityId

abbrev pub same_locality : LocalityId → LocalityId → Bool
same_locality a b = bytes_eq a.region b.region && bytes_eq a.zone b.zone && bytes_eq a.sub_zone b.sub_zone

abbrev pub same_place : Place → Place → Bool
same_place a b = bytes_eq a.cluster b.cluster && children.same_name a.child b.child && same_locality a.locality b.locality

abbrev pub place_at : Name → children.Name → Locality → Place
place_at cluster child locality = record { cluster = cluster; child = child; locality = locality.id }

abbrev pub place_in_child : Name → Tree → ℕ → children.Name → Option Place
place_in_child cluster tree locality child = option_map (place_at cluster child) (slice_get (child_localities tree child) locality)

-- what the places of a child and a locality stand for in a cluster's serving tree
abbrev pub place_in : List ClusterTrees → Name → ℕ → ℕ → Option Place
place_in trees cluster child locality =
    option_and_then (λ pair. option_and_then (λ c. place_in_child cluster pair.serving locality c.0) (slice_get (children_now pair.serving) child)) (trees_of cluster trees)

-- whose endpoint an earlier pick took
abbrev pub taken_by : What → List Page → Option Place
taken_by (What.Caller (CallerEvent.Pick id word) (CallerReply.Endpoint number child locality place)) ps =
    option_and_then (λ cluster. place_in (trees_now ps) cluster child locality) (held ps id)
taken_by _ ps = None

-- how many earlier picks took an endpoint there
abbrev pub turn : Place → List Page → ℕ
turn place [] = 0
turn place (p ∷ ps) = (if option_map_or (same_place place) (taken_by p.entry.what ps) false then 1 else 0) + turn place ps

abbrev pub turn_at : Option Place → List Page → ℕ
turn_at None ps = 0
turn_at (Some place) ps = turn place ps

-- ---- answers

abbrev pub fail_of : PickBody → Reason
fail_of (PickBody.Fail reason) = reason
fail_of _ = Reason.Failing

abbrev pub part_at : PickBody → ℕ → Option Part
part_at (PickBody.Ready parts sums) place = slice_get parts place
part_at _ place = None

-- the READY endpoints of a part take turns
abbrev pub endpoint_reply : List Page → Name → ℕ → ℕ → Part → CallerReply
endpoint_reply ps cluster number child part =
    CallerReply.Endpoint number child part.locality (turn_at (place_in (trees_now ps) cluster child part.locality) ps % length part.ready)

abbrev pub reply_of : List Page → Name → ℕ → TreeView → Chosen → CallerReply
reply_of ps cluster number view (Chosen.Drop rule) = CallerReply.Drop number rule
reply_of ps cluster number view Chosen.Queue = CallerReply.Queue number
reply_of ps cluster number view Chosen.Fail = CallerReply.Fail number (fail_of view.picker.body)
reply_of ps cluster number view (Chosen.Part place) =
    option_map_or (endpoint_reply ps cluster number view.chosen) (part_at view.picker.body place) (CallerReply.Queue number)

-- a cluster in error fails; else its picker chooses
abbrev pub view_reply : List Page → Name → ℕ → ℕ → Result TreeView Reason → CallerReply
view_reply ps cluster number word (Err reason) = CallerReply.Fail number reason
view_reply ps cluster number word (Ok view) = reply_of ps cluster number view (choice view.picker word)

-- the view of a cluster in a snapshot
abbrev pub view_in : Snapshot → Name → Option (Result TreeView Reason)
view_in snapshot cluster = option_and_then (slice_get snapshot.trees) (cluster_place snapshot.config cluster)

abbrev pub held_reply : List Page → ℕ → Option Name → Option Snapshot → CallerReply
held_reply ps word (Some cluster) (Some snapshot) = option_map_or (view_reply ps cluster snapshot.number word) (view_in snapshot cluster) CallerReply.NotHeld
held_reply ps word _ _ = CallerReply.NotHeld

-- a pick of a call, in the latest snapshot
abbrev pub pick_reply : List Page → CallId → ℕ → CallerReply
pick_reply ps id word = held_reply ps word (held ps id) (latest ps)
