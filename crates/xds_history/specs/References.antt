-- The clusters that calls hold or have pinned (gRFC A31, the references of the config selector; gRFC A74).
use Rattle.std.specs.Prelude.{ℕ, ◌==◌, List, [], ◌∷◌, ◌++◌, if◌then◌else◌, Option, Some, None, Result, Ok, Err, option_and_then, option_to_list, unwrap_or}
use Rattle.std.specs.List.{filter_map, flat_map}
use Rattle.std.specs.Option.{option_map_or}
use Rattle.xc_base.specs.declared.names.CallId.{CallId}
use Rattle.xc_base.specs.declared.reason.Reason.{Reason}
use Rattle.xds_config.specs.declared.config.Front.{Front}
use Rattle.route_match.specs.declared.answer.RouteAnswer.{RouteAnswer}
use Rattle.route_match.specs.NamedClusters.{answer_cluster}
use Rattle.cluster_tree.specs.declared.snapshot.Snapshot.{Snapshot}
use Rattle.call_journal.specs.declared.event.CallerEvent.{CallerEvent}
use Rattle.call_journal.specs.declared.reply.CallerReply.{CallerReply}
use Rattle.call_journal.specs.declared.entry.What.{What}
use Rattle.config_assembly.specs.Orders.{Name, sorted, name_cmp}
use Rattle.xds_history.specs.Words.{first_some}
use Rattle.config_assembly.specs.Front.{names_of_front}
use Rattle.xds_history.specs.declared.page.Page.{Page}

-- the snapshot of a number
abbrev pub snapshot_at : ℕ → List Page → Option Snapshot
snapshot_at number ps = first_some (λ p. option_and_then (λ x. if x.number == number then Some x else None) p.snapshot) ps

-- the cluster that an answer of a front names
abbrev pub routed_to : Result Front Reason → RouteAnswer → Option Name
routed_to (Ok front) answer = answer_cluster front answer
routed_to (Err reason) answer = None

-- the snapshots that were published, the oldest first
abbrev pub snapshots_of : List Page → List Snapshot
snapshots_of [] = []
snapshots_of (p ∷ ps) = snapshots_of ps ++ option_to_list p.snapshot

-- ---- holds

-- the cluster that a hold has found in the snapshot of this number
abbrev pub found_in : ℕ → RouteAnswer → List Page → Option Name
found_in number answer ps = option_and_then (λ x. routed_to x.config.front answer) (snapshot_at number ps)

-- what a call holds after an entry that says so
abbrev pub holds_after : CallId → What → List Page → Option (Option Name)
holds_after id (What.Caller (CallerEvent.Hold call) (CallerReply.Routed number answer)) ps = if call.id.0 == id.0 then Some (found_in number answer ps) else None
holds_after id (What.Caller (CallerEvent.Commit other) reply) ps = if other.0 == id.0 then Some None else None
holds_after id _ ps = None

-- the cluster that a call holds: that of its last hold, with no later commit
abbrev pub held : List Page → CallId → Option Name
held [] id = None
held (p ∷ ps) id = unwrap_or (holds_after id p.entry.what ps) (held ps id)

-- ---- pins

-- what a call has pinned after an entry that says so
abbrev pub pins_after : CallId → What → Option (Option ℕ)
pins_after id (What.Caller (CallerEvent.Pin call) (CallerReply.Pinned number)) = if call.id.0 == id.0 then Some (Some number) else None
pins_after id (What.Caller (CallerEvent.Pin call) reply) = if call.id.0 == id.0 then Some None else None
pins_after id (What.Caller (CallerEvent.Hold call) reply) = if call.id.0 == id.0 then Some None else None
pins_after id _ = None

-- the number of the snapshot that a call has pinned: that of its last pin, with no later hold
abbrev pub pinned : List Page → CallId → Option ℕ
pinned ps id = unwrap_or (first_some (λ p. pins_after id p.entry.what) ps) None

-- ---- references

abbrev pub started_in : What → Option CallId
started_in (What.Caller (CallerEvent.Pin call) reply) = Some call.id
started_in _ = None

-- the calls that were started
abbrev pub calls : List Page → List CallId
calls ps = filter_map (λ p. started_in p.entry.what) ps

abbrev pub names_in : Snapshot → List Name
names_in x = names_of_front x.config.front

-- what a call refers to: what it holds, and what the host of its pinned snapshot names
abbrev pub refers_to : List Page → CallId → List Name
refers_to ps id = option_to_list (held ps id) ++ option_map_or names_in (option_and_then (λ number. snapshot_at number ps) (pinned ps id)) []

-- the clusters that some call refers to, in order, each once
abbrev pub references : List Page → List Name
references ps = sorted name_cmp (flat_map (refers_to ps) (calls ps))

abbrev pub seen_after : What → List Name → List Name → List Name
seen_after (What.Driver event reply) now before = now
seen_after (What.Caller event reply) now before = before

-- what calls referred to at the driver's last entry
abbrev pub references_seen : List Page → List Name
references_seen [] = []
references_seen (p ∷ ps) = seen_after p.entry.what (references ps) (references_seen ps)
