-- How histories are written down, and made again: what the definitions say of each entry, computed. The modules below this
-- one are written by tools/history_rows.py, and each says from which session; the module NotLegal has what must not hold.
pub mod PlainPath
pub mod NackKeepsValue
pub mod PartialClusterResponse
pub mod DeletedCluster
pub mod ListenerExpires
pub mod StreamReopened
pub mod TwoHolders
pub mod LeavesShared
pub mod Chain16
pub mod Chain17
pub mod ChainLoop
pub mod PriorityFailover
pub mod NoSnapshot
pub mod PickQueues
pub mod PickFails
pub mod RealisticChannel
pub mod DropRule
pub mod ClusterChangesKind
pub mod BadPattern
pub mod ClusterTwice
pub mod HiddenState
pub mod OneStep
pub mod PendingUnused
pub mod SwitchBack
pub mod WatchedAgain
pub mod WaitingTree
pub mod TurnsOfLeaves
pub mod NothingExpiresWhileDown
pub mod TwoAuthorities
pub mod DeletedAndRefused
pub mod FrontIsAReasonWhileHeld
pub mod TurnsByPriority
pub mod TurnsByCluster
pub mod TurnsBySubZone
pub mod RouteMovesUnderAPin
pub mod TwoCallers
use Rattle.std.specs.Prelude.{◌≡◌, ◌≢◌, ℕ, ◌≤◌, List, [], ◌∷◌, ◌++◌, map, Bool, true, false, ◌&&◌, nat_le, flat_map, if◌then◌else◌, Option, Some, None, Result, Ok, Err, unwrap_or, slice_get}
use Rattle.std.proofs.Common.{ap, arith}
use Rattle.std.proofs.lemmas.Slice.Eq.{bytes_eq-Decides}
use Rattle.std.proofs.lemmas.Bool.Decides.{nat_tests}
use Rattle.std.specs.List.{filter_map, find}
use Rattle.std.specs.Str.{bytes_eq}
use Rattle.xc_base.specs.declared.names.Kind.{Kind}
use Rattle.xc_base.specs.declared.names.Home.{Home}
use Rattle.xc_base.specs.declared.names.Key.{Key}
use Rattle.xc_base.specs.declared.names.Authority.{Authority}
use Rattle.xc_base.specs.declared.call.Node.{Node}
use Rattle.xc_base.specs.declared.names.State.{State}
use Rattle.xc_base.specs.declared.reason.Reason.{Reason}
use Rattle.xc_base.specs.Reasons.{reason_word}
use Rattle.xds_config.specs.declared.config.Front.{Front}
use Rattle.xds_config.specs.declared.route_values.Host.{Host}
use Rattle.xds_config.specs.declared.route_values.Action.{Action}
use Rattle.weighted_lb.specs.declared.picker.Part.{Part}
use Rattle.weighted_lb.specs.declared.picker.PickBody.{PickBody}
use Rattle.proto_discovery.specs.declared.response.Response.{Response}
use Rattle.check_steps.specs.declared.check_fault.Stop.{Stop}
use Rattle.check_steps.specs.declared.check_fault.Refusal.{Refusal}
use Rattle.xds_history.specs.resource_check.declared.resource.Checked.{Checked}
use Rattle.xds_history.specs.tree_steps.declared.tree_view.NamedChild.{NamedChild}
use Rattle.xds_history.specs.tree_steps.declared.tree_view.TreeView.{TreeView}
use Rattle.xds_history.specs.cluster_tree.declared.snapshot.Snapshot.{Snapshot}
use Rattle.ads_stream.specs.declared.verdict.Verdict.{Verdict}
use Rattle.xds_history.specs.call_journal.declared.event.DriverEvent.{DriverEvent}
use Rattle.xds_history.specs.call_journal.declared.event.CallerEvent.{CallerEvent}
use Rattle.xds_history.specs.call_journal.declared.reply.Sent.{Sent}
use Rattle.xds_history.specs.call_journal.declared.reply.DriverReply.{DriverReply}
use Rattle.xds_history.specs.call_journal.declared.reply.CallerReply.{CallerReply}
use Rattle.xds_history.specs.call_journal.declared.entry.What.{What}
use Rattle.xds_history.specs.call_journal.declared.entry.Entry.{Entry}
use Rattle.xds_history.specs.config_assembly.Orders.{Name}
use Rattle.xds_history.specs.Words.{same_kind}
use Rattle.xds_history.specs.Setting.{Setting}
use Rattle.xds_history.specs.Responses.{Came, verdict, answered, stopped_at}
use Rattle.xds_history.specs.Requests.{requests}
use Rattle.xds_history.specs.declared.page.Page.{Page}
use Rattle.xds_history.specs.Page.{latest}
use Rattle.xds_history.specs.Pages.{pages, driver_page, present_after}
use Rattle.xds_history.specs.Right.{IsNumber, Shown, shown, standing, caller_reply}

-- ---- the setting of a row: payloads and resources are told by their places in two tables

abbrev pub a_node : Node
a_node = record { id = []; cluster = []; region = []; zone = []; sub_zone = [] }

-- a response whose type URL tells its kind, of the resources at these places
abbrev pub response : ℕ → Name → Name → List ℕ → Response
response kind version nonce places = record { version = version; nonce = nonce; type_url = kind ∷ []; resources = map (λ place. record { type_url = kind ∷ []; value = place ∷ [] }) places }

abbrev pub kind_by : Name → Option Kind
kind_by (n ∷ []) = slice_get (Kind.Listener ∷ Kind.Route ∷ Kind.Cluster ∷ Kind.Endpoint ∷ []) n
kind_by _ = None

abbrev pub place_in : List ℕ → ℕ
place_in (n ∷ []) = n
place_in _ = 1000

abbrev pub no_resource : Result Checked Refusal
no_resource = Err (record { name = None; stop = Stop.Because Reason.Unreadable })

-- the check of a resource that has this in the table: it stops at a pattern only where that text is refused
abbrev pub checked_with : (Name → Bool) → Result Checked Refusal → Result Checked Refusal
checked_with refuses (Ok checked) = Ok checked
checked_with refuses (Err refusal) = stopped refusal.stop
  where
    stopped : Stop → Result Checked Refusal
    stopped (Stop.Because reason) = Err refusal
    stopped (Stop.Refused pattern) = if refuses pattern then Err refusal else no_resource

abbrev pub default_authority : Authority
default_authority = record { 0 = 0 }

abbrev pub at_default : Kind → Name → Key
at_default kind name = record { kind = kind; name = name; home = Home.At default_authority }

abbrev pub is_of_name : Kind → Name → Key → Bool
is_of_name kind name key = same_kind kind key.kind && bytes_eq name key.name

-- the key of a name, which lives at the default authority where these don't say otherwise
abbrev pub key_from : List Key → Kind → Name → Key
key_from keys kind name = unwrap_or (find (is_of_name kind name) keys) (at_default kind name)

abbrev pub setting_with : (Kind → Name → Key) → ℕ → Name → Name → List Response → List (Result Checked Refusal) → Setting
setting_with key authorities target host responses checked = record {
  target = record { key = key Kind.Listener target; host = host };
  node = a_node;
  authorities = authorities;
  key = key;
  read = λ payload. slice_get responses (place_in payload);
  kind_of = kind_by;
  check = λ refuses kind any. checked_with refuses (unwrap_or (slice_get checked (place_in any.value)) no_resource);
}

-- ---- entries

abbrev pub driven : DriverEvent → Verdict → Option Key → List Sent → Option ℕ → List Name → What
driven event verdict missing sent number refused =
    What.Driver event (record { verdict = verdict; sent = sent; missing = missing; snapshot = number; refused = refused })

abbrev pub called : CallerEvent → CallerReply → What
called event reply = What.Caller event reply

abbrev pub on_line : ℕ → ℕ → What → Entry
on_line actor line what = record { actor = actor; line = line; what = what }

-- ---- each entry, with its reply made again

-- what stands in the place of an entry while its reply is made
abbrev pub blank : Entry
blank = on_line 0 0 (called (CallerEvent.Commit (record { 0 = 0 })) CallerReply.NotHeld)

abbrev pub reply_with : Setting → Came → List Entry → Option ℕ → Page → DriverReply
reply_with s c past number page =
    record { verdict = c.verdict; sent = requests s c past page.watched; missing = page.missing; snapshot = number; refused = stopped_at s c.refused (answered s c) }

abbrev pub reply_to : Setting → Came → List Entry → List Page → Option ℕ → DriverReply
reply_to s c past ps number = reply_with s c past number (driver_page s blank c number past ps (present_after past c.event))

-- what comes where these texts are refused as patterns, whichever of them the entry tells
abbrev pub came_again : Setting → List Name → List Entry → DriverEvent → Came
came_again s refused past event = record { event = event; verdict = verdict s past event refused; refused = refused }

abbrev pub again : Setting → List Name → What → List Entry → List Page → What
again s refused (What.Driver event reply) past ps = What.Driver event (reply_to s (came_again s refused past event) past ps reply.snapshot)
again s refused (What.Caller event reply) past ps = What.Caller event (caller_reply ps event)

abbrev pub replayed_on : Setting → List Name → List Entry → List Page → List What
replayed_on s refused (e ∷ past) (p ∷ ps) = again s refused e.what past ps ∷ replayed_on s refused past ps
replayed_on s refused _ _ = []

-- the entries with their replies made again, where these texts are refused as patterns
abbrev pub replayed : Setting → List Name → List Entry → List What
replayed s refused history = replayed_on s refused history (pages s history)

abbrev pub as_made : List Entry → List What
as_made history = map (λ e. e.what) history

-- ---- snapshots

-- the published ones, the newest first
abbrev pub snapshots : Setting → List Entry → List Snapshot
snapshots s history = filter_map (λ p. p.snapshot) (pages s history)

-- of a driver's entry: what stands at it, the snapshot that was published last before it, and the number of its own
pub record Step : Type 0 where
  pub stands : Option Shown
  pub last : Option Snapshot
  pub number : Option ℕ

abbrev pub step_in : What → List Entry → Page → List Page → List Step
step_in (What.Driver event reply) past page ps =
    record { stands = standing (present_after past event) page.config page.trees; last = latest ps; number = reply.snapshot } ∷ []
step_in (What.Caller event reply) past page ps = []

abbrev pub steps_on : List Entry → List Page → List Step
steps_on (e ∷ past) (p ∷ ps) = step_in e.what past p ps ++ steps_on past ps
steps_on _ _ = []

-- those of the driver's entries, the newest first
abbrev pub steps : Setting → List Entry → List Step
steps s history = steps_on history (pages s history)

-- each has the number that it has to have
abbrev pub AreNumbered : List Step → Type 0
AreNumbered [] = Unit {0}
AreNumbered (step ∷ before) = IsNumber step.stands step.last step.number × AreNumbered before

-- ---- that two snapshots show something else

abbrev flag : Bool → ℕ
flag true = 1
flag false = 0

abbrev state_number : State → ℕ
state_number State.Ready = 2
state_number State.Connecting = 1
state_number State.Failing = 0

abbrev child_code : NamedChild → List ℕ
child_code c = c.leaf ++ (c.priority ∷ flag c.view.there ∷ state_number c.view.state ∷ flag c.view.pending ∷ flag c.view.unused ∷ [])

abbrev waiting_code : Option (List NamedChild) → List ℕ
waiting_code None = 0 ∷ []
waiting_code (Some children) = 1 ∷ flat_map child_code children

abbrev part_code : Part → List ℕ
part_code part = part.locality ∷ part.weight ∷ flat_map (λ address. address) part.ready

abbrev body_code : PickBody → List ℕ
body_code (PickBody.Ready parts sums) = 2 ∷ flat_map part_code parts
body_code PickBody.Queue = 1 ∷ []
body_code (PickBody.Fail reason) = 0 ∷ reason_word reason

abbrev tree_code : Result TreeView Reason → List ℕ
tree_code (Ok view) = flat_map child_code view.children ++ (view.chosen ∷ waiting_code view.waiting) ++ body_code view.picker.body
tree_code (Err reason) = reason_word reason

abbrev action_code : Action → List ℕ
action_code (Action.To parts) = flat_map (λ part. part.cluster) parts
action_code _ = []

abbrev host_code : Host → List ℕ
host_code host = flat_map (λ route. action_code route.action) host.routes

abbrev front_code : Result Front Reason → List ℕ
front_code (Ok front) = front.listener ++ front.routes.name ++ flat_map host_code front.routes.hosts
front_code (Err reason) = reason_word reason

-- much of what a snapshot shows, as numbers
abbrev code : Shown → List ℕ
code s = front_code s.0.front ++ flat_map (λ cluster. cluster.name) s.0.clusters ++ flat_map tree_code s.1

differ : (x y : List ℕ) → bytes_eq x y ≡ false → x ≡ y → ⊥
differ x y is same = let found : bytes_eq x y ≡ true = (bytes_eq-Decides x y).1 same in cc (found, is)

pub are_apart : (now before : Snapshot) → bytes_eq (code (shown now)) (code (shown before)) ≡ false → shown now ≢ shown before
are_apart now before is same = differ (code (shown now)) (code (shown before)) is (ap code same)

-- ---- actors

-- numbers that are compared by a test
pub at_most : (a b : ℕ) → nat_le a b ≡ true → a ≤ b
at_most a b is = grind (arith, nat_tests)
