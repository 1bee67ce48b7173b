-- Right histories: each reply is the one on the entries up to it.
use Rattle.std.specs.Prelude.{◌≡◌, ◌≢◌, ℕ, ◌+◌, List, [], ◌∷◌, Bool, true, false, Option, Some, None, is_some, Result}
use Rattle.std.specs.Option.{option_map_or}
use Rattle.xc_base.specs.declared.call.Call.{Call}
use Rattle.xc_base.specs.declared.reason.Reason.{Reason}
use Rattle.xds_config.specs.declared.config.Config.{Config}
use Rattle.route_match.specs.Routes.{route}
use Rattle.tree_steps.specs.declared.tree_view.TreeView.{TreeView}
use Rattle.cluster_tree.specs.declared.snapshot.Snapshot.{Snapshot}
use Rattle.call_journal.specs.declared.event.DriverEvent.{DriverEvent}
use Rattle.call_journal.specs.declared.event.CallerEvent.{CallerEvent}
use Rattle.call_journal.specs.declared.reply.DriverReply.{DriverReply}
use Rattle.call_journal.specs.declared.reply.CallerReply.{CallerReply}
use Rattle.call_journal.specs.declared.entry.What.{What}
use Rattle.call_journal.specs.declared.entry.Entry.{Entry}
use Rattle.xds_history.specs.Setting.{Setting}
use Rattle.xds_history.specs.Responses.{verdict, answered, stopped_at}
use Rattle.xds_history.specs.Requests.{requests}
use Rattle.xds_history.specs.declared.page.Page.{Page}
use Rattle.xds_history.specs.declared.page.ClusterTrees.{ClusterTrees}
use Rattle.xds_history.specs.Page.{latest, latest_number}
use Rattle.xds_history.specs.References.{held, pinned, snapshot_at}
use Rattle.xds_history.specs.Trees.{Present}
use Rattle.xds_history.specs.Pickers.{views}
use Rattle.xds_history.specs.Picks.{pick_reply}
use Rattle.xds_history.specs.Pages.{pages, page_of, came, present_after}

-- ---- snapshots

-- what a snapshot shows beside its number: the configuration, and the views of the trees
abbrev pub Shown : Type 0
Shown = Config × List (Result TreeView Reason)

abbrev pub shown : Snapshot → Shown
shown snapshot = (snapshot.config, snapshot.trees)

-- what stands, where there is a configuration
abbrev pub standing : Present → Option Config → List ClusterTrees → Option Shown
standing present None trees = None
standing present (Some config) trees = Some (config, views present.state trees config)

-- A snapshot is published with the first configuration, and where what stands differs from the one published last. They
-- are numbered from 1.
abbrev pub IsNumber : Option Shown → Option Snapshot → Option ℕ → Type 0
IsNumber None last number = number ≡ None
IsNumber (Some stands) None number = number ≡ Some 1
IsNumber (Some stands) (Some last) None = stands ≡ shown last
IsNumber (Some stands) (Some last) (Some number) = (number ≡ last.number + 1) × (stands ≢ shown last)

-- ---- the reply to a driver's event, which makes this page

pub record IsDriverReply (s : Setting) (event : DriverEvent) (reply : DriverReply) (past : List Entry) (ps : List Page) (page : Page) : Type 0 where
  pub verdict_is : reply.verdict ≡ verdict s past event reply.refused
  -- any pattern text may be refused; those that are stand in the order in which the checks came to them, and no other
  pub refused_is : reply.refused ≡ stopped_at s reply.refused (answered s (came event reply))
  pub sent_is : reply.sent ≡ requests s (came event reply) past page.watched
  pub missing_is : reply.missing ≡ page.missing
  pub number_is : IsNumber (standing (present_after past event) page.config page.trees) (latest ps) reply.snapshot

-- ---- the reply to a caller's event

abbrev pub pin_reply : Option ℕ → CallerReply
pin_reply None = CallerReply.NoSnapshot
pin_reply (Some number) = CallerReply.Pinned number

-- the route of a call in the snapshot that it has pinned
abbrev pub hold_reply : List Page → Call → Option ℕ → CallerReply
hold_reply ps call None = CallerReply.NoSnapshot
hold_reply ps call (Some number) = option_map_or (λ x. CallerReply.Routed number (route x.config.front call)) (snapshot_at number ps) CallerReply.NoSnapshot

abbrev pub commit_reply : Bool → CallerReply
commit_reply true = CallerReply.Released
commit_reply false = CallerReply.NotHeld

abbrev pub caller_reply : List Page → CallerEvent → CallerReply
caller_reply ps (CallerEvent.Pin call) = pin_reply (latest_number ps)
caller_reply ps (CallerEvent.Hold call) = hold_reply ps call (pinned ps call.id)
caller_reply ps (CallerEvent.Pick id word) = pick_reply ps id word
caller_reply ps (CallerEvent.Commit id) = commit_reply (is_some (held ps id))

-- ---- right histories

abbrev pub IsReply : Setting → Entry → What → List Entry → List Page → Type 0
IsReply s e (What.Driver event reply) past ps = IsDriverReply s event reply past ps (page_of s e (What.Driver event reply) past ps)
IsReply s e (What.Caller event reply) past ps = reply ≡ caller_reply ps event

-- each reply is the one on the entries before it and on its own event
abbrev pub Right : Setting → List Entry → Type 0
Right s [] = Unit {0}
Right s (e ∷ past) = IsReply s e e.what past (pages s past) × Right s past
