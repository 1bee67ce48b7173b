-- The way of a call from its pin to its commit, and that its cluster stays on it (gRFC A31, A74).
use Rattle.std.specs.Prelude.{◌≡◌, ℕ, ◌==◌, List, [], ◌∷◌, ◌++◌, Bool, false, not, ◌||◌, Option, Some, None, IsTrue, IfSome}
use Rattle.std.specs.List.{list_all}
use Rattle.xc_base.specs.declared.names.CallId.{CallId}
use Rattle.xds_history.specs.cluster_tree.declared.snapshot.Snapshot.{Snapshot}
use Rattle.call_journal.specs.declared.event.CallerEvent.{CallerEvent}
use Rattle.call_journal.specs.declared.reply.CallerReply.{CallerReply}
use Rattle.call_journal.specs.declared.entry.What.{What}
use Rattle.call_journal.specs.declared.entry.Entry.{Entry}
use Rattle.xds_history.specs.config_assembly.Orders.{Name}
use Rattle.xds_history.specs.Setting.{Setting}
use Rattle.xds_history.specs.declared.page.Page.{Page}
use Rattle.xds_history.specs.References.{snapshot_at, found_in}
use Rattle.xds_history.specs.Pages.{pages}
use Rattle.xds_history.specs.Right.{Right}
use Rattle.xds_history.specs.HistoryLaws.{HasCluster, published}

-- ---- entries of a call

abbrev pub is_pin_of : CallId → What → Bool
is_pin_of id (What.Caller (CallerEvent.Pin call) reply) = call.id.0 == id.0
is_pin_of id _ = false

abbrev pub is_hold_of : CallId → What → Bool
is_hold_of id (What.Caller (CallerEvent.Hold call) reply) = call.id.0 == id.0
is_hold_of id _ = false

abbrev pub is_commit_of : CallId → What → Bool
is_commit_of id (What.Caller (CallerEvent.Commit other) reply) = other.0 == id.0
is_commit_of id _ = false

-- the number of the snapshot that a pin or a hold names
abbrev pub number_in : What → Option ℕ
number_in (What.Caller (CallerEvent.Pin call) (CallerReply.Pinned number)) = Some number
number_in (What.Caller (CallerEvent.Hold call) (CallerReply.Routed number answer)) = Some number
number_in _ = None

-- the cluster that the route of a hold names, in the snapshot that the hold names
abbrev pub cluster_in : What → List Page → Option Name
cluster_in (What.Caller (CallerEvent.Hold call) (CallerReply.Routed number answer)) ps = found_in number answer ps
cluster_in _ ps = None

-- ---- the way of a call

-- no entry of these is a pin or a hold of the call
abbrev pub IsWaiting : CallId → List Entry → Type 0
IsWaiting id waiting = IsTrue (list_all (λ e. not (is_pin_of id e.what || is_hold_of id e.what)) waiting)

-- no entry of these is a hold or a commit of the call
abbrev pub IsHolding : CallId → List Entry → Type 0
IsHolding id holding = IsTrue (list_all (λ e. not (is_hold_of id e.what || is_commit_of id e.what)) holding)

-- A call's way: its pin, the entries up to its hold, its hold, and those up to its commit, or to the end. Each list has its
-- newest entry first.
pub record Course : Type 0 where
  pub past : List Entry
  pub pin : Entry
  pub waiting : List Entry
  pub hold : Entry
  pub holding : List Entry

-- what came before its hold
abbrev pub before_hold : Course → List Entry
before_hold course = course.waiting ++ course.pin ∷ course.past

-- what came after its pin
abbrev pub after_pin : Course → List Entry
after_pin course = course.holding ++ course.hold ∷ course.waiting

-- the call takes this way in a history
pub record IsCourseOf (id : CallId) (history : List Entry) (course : Course) : Type 0 where
  pub later : List Entry
  pub is : history ≡ later ++ (after_pin course ++ course.pin ∷ course.past)
  pub pins : IsTrue (is_pin_of id course.pin.what)
  pub waits : IsWaiting id course.waiting
  pub takes_hold : IsTrue (is_hold_of id course.hold.what)
  pub holds : IsHolding id course.holding

-- ---- its cluster

-- each snapshot that these entries publish, after the past, has the cluster
abbrev pub AllHave : Setting → List Entry → List Entry → Name → Type 0
AllHave s [] past name = Unit {0}
AllHave s (e ∷ entries) past name = IfSome (published s e (entries ++ past)) (λ snapshot. HasCluster snapshot name) × AllHave s entries past name

-- The snapshot that the call has pinned, which its pin and its hold name, has the cluster, and so has each one that is
-- published after its pin and before its commit, or up to the end. (In a snapshot a cluster has its leaves, or a reason.)
pub record HasThroughout (s : Setting) (course : Course) (name : Name) : Type 0 where
  pub number : ℕ
  pub pin_names : number_in course.pin.what ≡ Some number
  pub hold_names : number_in course.hold.what ≡ Some number
  pub snapshot : Snapshot
  pub snapshot_is : snapshot_at number (pages s course.past) ≡ Some snapshot
  pub pinned_has : HasCluster snapshot name
  pub later_have : AllHave s (after_pin course) (course.pin ∷ course.past) name

-- each snapshot from a call's pin to its commit has that call's cluster, where its route names one
abbrev pub KeepsClusters : Setting → List Entry → Type 0
KeepsClusters s history = (id : CallId) (course : Course) → IsCourseOf id history course → (name : Name) → cluster_in course.hold.what (pages s (before_hold course)) ≡ Some name → HasThroughout s course name

abbrev pub ClustersKept : Type 0
ClustersKept = (s : Setting) (history : List Entry) → Right s history → KeepsClusters s history

-- ---- each hold ends a way

-- a pin of the call is among the entries, with no other pin and no hold of it since
pub record HasPin (id : CallId) (before : List Entry) : Type 0 where
  pub past : List Entry
  pub pin : Entry
  pub waiting : List Entry
  pub is : before ≡ waiting ++ pin ∷ past
  pub pins : IsTrue (is_pin_of id pin.what)
  pub waits : IsWaiting id waiting

-- each hold whose route names a cluster has its pin before it
abbrev pub HavePins : Setting → List Entry → Type 0
HavePins s history =
    (later : List Entry) (hold : Entry) (before : List Entry) → history ≡ later ++ hold ∷ before → (id : CallId) → IsTrue (is_hold_of id hold.what)
    → (name : Name) → cluster_in hold.what (pages s before) ≡ Some name → HasPin id before

abbrev pub HoldsHavePins : Type 0
HoldsHavePins = (s : Setting) (history : List Entry) → Right s history → HavePins s history
