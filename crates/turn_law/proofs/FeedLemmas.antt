-- The texts in the lines of a report have no line feed.
use Rattle.std.proofs.Common.{◌≡◌, ℕ, ◌+◌, List, [], ◌∷◌, ◌++◌, Bool, true, false, cond, Option, Some, None, Result, Ok, Err, codes, eqb, refl, sym, ◌∙◌, arith}
use Rattle.std.specs.Fmt.{decimal}
use Rattle.std.specs.List.{slice_get}
use Rattle.std.specs.Option.{option_and_then, unwrap_or}
use Rattle.xc_base.specs.Reasons.{reason_word}
use Rattle.xc_base.specs.declared.call.Node.{Node}
use Rattle.xc_base.specs.declared.names.Authority.{Authority}
use Rattle.xc_base.specs.declared.names.Key.{Key}
use Rattle.xc_base.specs.declared.names.Kind.{Kind}
use Rattle.xc_base.specs.declared.names.State.{State}
use Rattle.xc_base.specs.declared.reason.Reason.{Reason}
use Rattle.xds_name.specs.NameTexts as texts
use Rattle.xds_bootstrap.specs.declared.bootstrap.AuthorityEntry.{AuthorityEntry}
use Rattle.proto_discovery.specs.declared.request.Request.{Request}
use Rattle.xds_config.specs.declared.config.Front.{Front}
use Rattle.xds_config.specs.declared.config.ClusterEntry.{ClusterEntry}
use Rattle.weighted_lb.specs.declared.picker.Picker.{Picker}
use Rattle.route_match.specs.declared.answer.RouteAnswer.{RouteAnswer}
use Rattle.priority_lb.specs.declared.view.ChildView.{ChildView}
use Rattle.tree_steps.specs.declared.tree_view.NamedChild.{NamedChild}
use Rattle.tree_steps.specs.declared.tree_view.TreeView.{TreeView}
use Rattle.cluster_tree.specs.declared.snapshot.Snapshot.{Snapshot}
use Rattle.ads_stream.specs.declared.verdict.Verdict.{Verdict}
use Rattle.call_journal.specs.declared.event.BytesHow.{BytesHow}
use Rattle.call_journal.specs.declared.event.CallerEvent.{CallerEvent}
use Rattle.call_journal.specs.declared.event.DriverEvent.{DriverEvent}
use Rattle.call_journal.specs.declared.reply.CallerReply.{CallerReply}
use Rattle.call_journal.specs.declared.reply.DriverReply.{DriverReply}
use Rattle.call_journal.specs.declared.reply.Sent.{Sent}
use Rattle.tree_text.specs.Escapes.{escaped}
use Rattle.tree_text.specs.TreeText.{before_child, child_text, children_from, if_so, state_word, tree_text, view_text, waiting_place, waiting_text}
use Rattle.report_parts.specs.ReportWords.{authority_name, authority_text, kind_word, name_text}
use Rattle.report_parts.specs.Driver.{event_text, how_text, missing_text, outcome_text, verdict_text}
use Rattle.report_parts.specs.RequestText.{error_text, more_names, names_text, node_text, request_text}
use Rattle.report_parts.specs.Snapshots.{cluster_text, clusters_from, found_tree_text, front_text}
use Rattle.report_parts.specs.Callers.{address_of, answer_text, at_text, caller_event_text, caller_reply_text, category_of, cluster_in, picker_in}
use Rattle.text_law.proofs.Texts.{lacks}
use Rattle.text_law.proofs.TextLemmas.{decimal_lacks, escaped_no_feed, lacks-append}
use Rattle.turn_law.specs.TurnLaw.{event_address}

-- a text without a line feed
pub record NoFeed (text : List ℕ) : Type 0 where
  pub says : lacks 10 text ≡ true

pub literal : (text : List ℕ) → lacks 10 text ≡ true → NoFeed text
literal text h = record { says = h }

infixl 30 ◌⊕◌
pub ◌⊕◌ : {x y : List ℕ} → NoFeed x → NoFeed y → NoFeed (x ++ y)
◌⊕◌ {x} {y} h k = literal (x ++ y) (lacks-append 10 x y h.says k.says)

chosen : {x y : List ℕ} (b : Bool) → NoFeed x → NoFeed y → NoFeed (cond b x y)
chosen true h k = h
chosen false h k = k

pub nothing : NoFeed []
nothing = literal [] refl

pub number : (n : ℕ) → NoFeed (decimal n)
number n = literal (decimal n) (decimal_lacks 10 n (omega arith))

name : (text : List ℕ) → NoFeed (escaped text)
name text = literal (escaped text) (escaped_no_feed text)

named : (text : Option (List ℕ)) → NoFeed (name_text text)
named None = nothing
named (Some text) = name text

-- in the words of `xds_name`
lacks_alike : (text : List ℕ) → texts.lacks 10 text ≡ lacks 10 text
lacks_alike [] = refl
lacks_alike (b ∷ bs) = let more = lacks_alike bs in grind (arith, more)

pub plain : (text : List ℕ) → texts.lacks 10 text ≡ true → NoFeed text
plain text h = literal text (sym (lacks_alike text) ∙ h)

pub in_names : (text : List ℕ) → NoFeed text → texts.lacks 10 text ≡ true
in_names text h = lacks_alike text ∙ h.says

-- ---- words

kind : (k : Kind) → NoFeed (kind_word k)
kind Kind.Listener = literal _ refl
kind Kind.Route = literal _ refl
kind Kind.Cluster = literal _ refl
kind Kind.Endpoint = literal _ refl

state : (s : State) → NoFeed (state_word s)
state State.Connecting = literal _ refl
state State.Ready = literal _ refl
state State.Failing = literal _ refl

reason_lacks : (r : Reason) → lacks 10 (reason_word r) ≡ true
reason_lacks Reason.Unreadable = refl
reason_lacks Reason.NoName = refl
reason_lacks Reason.Second = refl
reason_lacks Reason.WrongType = refl
reason_lacks Reason.NoRoutes = refl
reason_lacks Reason.ConfigSource = refl
reason_lacks Reason.Domain = refl
reason_lacks Reason.NoPath = refl
reason_lacks Reason.BadPattern = refl
reason_lacks Reason.NoHeaderMatch = refl
reason_lacks Reason.Fraction = refl
reason_lacks Reason.Weights = refl
reason_lacks Reason.ManyClusters = refl
reason_lacks Reason.ClusterKind = refl
reason_lacks Reason.NoClusters = refl
reason_lacks Reason.LbPolicy = refl
reason_lacks Reason.Address = refl
reason_lacks Reason.LocalityTwice = refl
reason_lacks Reason.PriorityGap = refl
reason_lacks Reason.BadEscape = refl
reason_lacks Reason.BadType = refl
reason_lacks Reason.BadAuthority = refl
reason_lacks Reason.Absent = refl
reason_lacks Reason.NoHost = refl
reason_lacks Reason.Depth = refl
reason_lacks Reason.NoEndpoints = refl
reason_lacks Reason.Failing = refl

reason : (r : Reason) → NoFeed (reason_word r)
reason r = literal (reason_word r) (reason_lacks r)

authority : (authorities : List AuthorityEntry) (a : Authority) → NoFeed (authority_text authorities a)
authority authorities a = chosen (eqb a.0 0) (literal (codes "-") refl) (literal (codes "+") refl ⊕ named (authority_name authorities a))

-- ---- the driver's line

verdict : (v : Verdict) → NoFeed (verdict_text v)
verdict Verdict.Done = literal _ refl
verdict Verdict.Closed = literal _ refl
verdict (Verdict.Ack k) = literal (codes "ack ") refl ⊕ kind k
verdict (Verdict.Nack k) = literal (codes "nack ") refl ⊕ kind k
verdict Verdict.Ignored = literal _ refl
verdict Verdict.Unreadable = literal _ refl

how : (h : BytesHow) → NoFeed (how_text h)
how BytesHow.Whole = literal _ refl
how BytesHow.Closed = literal _ refl
how BytesHow.Compressed = literal _ refl
how (BytesHow.TooLong n) = literal (codes "toolong ") refl ⊕ number n
how BytesHow.Ended = literal _ refl

outcome : (event : DriverEvent) (v : Verdict) → NoFeed (outcome_text event v)
outcome (DriverEvent.Opened a) v = verdict v
outcome (DriverEvent.Response a payload) v = verdict v
outcome (DriverEvent.Bytes a h) v = how h
outcome (DriverEvent.Lost a) v = verdict v
outcome (DriverEvent.Moment t) v = verdict v
outcome (DriverEvent.Endpoint address s) v = verdict v
outcome DriverEvent.Sweep v = verdict v

missing : (key : Option Key) → NoFeed (missing_text key)
missing None = literal _ refl
missing (Some key) = literal (codes " wait ") refl ⊕ kind key.kind ⊕ literal (codes ":") refl ⊕ name key.name

event : (authorities : List AuthorityEntry) (e : DriverEvent) → NoFeed (event_address e) → NoFeed (event_text authorities e)
event authorities (DriverEvent.Opened a) h = literal (codes "open ") refl ⊕ authority authorities a
event authorities (DriverEvent.Response a payload) h = literal (codes "response ") refl ⊕ authority authorities a
event authorities (DriverEvent.Bytes a how) h = literal (codes "bytes ") refl ⊕ authority authorities a
event authorities (DriverEvent.Lost a) h = literal (codes "lost ") refl ⊕ authority authorities a
event authorities (DriverEvent.Moment t) h = literal (codes "time ") refl ⊕ number t.0
event authorities (DriverEvent.Endpoint address s) h = literal (codes "endpoint ") refl ⊕ h ⊕ literal (codes " ") refl ⊕ state s
event authorities DriverEvent.Sweep h = literal _ refl

-- ---- requests

more_named : (names : List (List ℕ)) → NoFeed (more_names names)
more_named [] = nothing
more_named (n ∷ names) = literal (codes ",") refl ⊕ name n ⊕ more_named names

all_named : (names : List (List ℕ)) → NoFeed (names_text names)
all_named [] = nothing
all_named (n ∷ names) = name n ⊕ more_named names

error : (e : Option (List ℕ)) → NoFeed (error_text e)
error None = nothing
error (Some text) = literal (codes " err=") refl ⊕ name text

node : (n : Option Node) → NoFeed (node_text n)
node None = nothing
node (Some n) = literal _ refl

request : (r : Request) → NoFeed (request_text r)
unfolding request_text
request r =
    kind r.kind ⊕ literal (codes " v=") refl ⊕ name r.version ⊕ literal (codes " n=") refl ⊕ name r.nonce
    ⊕ literal (codes " names=") refl ⊕ all_named r.names ⊕ error r.error ⊕ node r.node

-- a line that begins with two spaces, without its line feed
pub request_rest : (authorities : List AuthorityEntry) (sent : Sent) → NoFeed (codes "req " ++ authority_text authorities sent.authority ++ codes " " ++ request_text sent.request)
request_rest authorities sent = literal (codes "req ") refl ⊕ authority authorities sent.authority ⊕ literal (codes " ") refl ⊕ request sent.request

pub pattern_rest : (pattern : List ℕ) → NoFeed (codes "pat " ++ escaped pattern)
pattern_rest pattern = literal (codes "pat ") refl ⊕ name pattern

-- ---- snapshots

front : (f : Result Front Reason) → NoFeed (front_text f)
front (Ok f) = name f.listener ⊕ literal (codes ",") refl ⊕ name f.routes.name ⊕ literal (codes ",") refl ⊕ number f.host
front (Err r) = literal (codes "!") refl ⊕ reason r

marked : (b : Bool) (mark : List ℕ) → NoFeed mark → NoFeed (if_so b mark)
marked true mark h = h
marked false mark h = nothing

view : (v : ChildView) → NoFeed (view_text v)
view v =
    chosen v.there (state v.state ⊕ marked v.pending (codes "+") (literal _ refl) ⊕ marked v.unused (codes "~") (literal _ refl)) (literal (codes "none") refl)

child : (c : NamedChild) → NoFeed (child_text c)
unfolding child_text
child c = name c.leaf ⊕ literal (codes "/") refl ⊕ number c.priority ⊕ literal (codes ":") refl ⊕ view c.view

before : (best place : ℕ) → NoFeed (before_child best place)
before best place = chosen (eqb place 0) nothing (literal (codes ",") refl) ⊕ marked (eqb place best) (codes "*") (literal _ refl)

children : (best place : ℕ) (cs : List NamedChild) → NoFeed (children_from best place cs)
unfolding children_from
children best place [] = nothing
children best place (c ∷ cs) = before best place ⊕ child c ⊕ children best (place + 1) cs

waiting : (w : Option (List NamedChild)) → NoFeed (waiting_text w)
waiting None = nothing
waiting (Some cs) = literal (codes "|") refl ⊕ children (waiting_place cs) 0 cs

tree : (t : Result TreeView Reason) → NoFeed (tree_text t)
tree (Ok t) = children t.chosen 0 t.children ⊕ waiting t.waiting
tree (Err r) = literal (codes "!") refl ⊕ reason r

found_tree : (t : Option (Result TreeView Reason)) → NoFeed (found_tree_text t)
found_tree None = nothing
found_tree (Some t) = tree t

cluster : (c : ClusterEntry) (t : Option (Result TreeView Reason)) → NoFeed (cluster_text c t)
unfolding cluster_text
cluster c t = literal (codes " ") refl ⊕ name c.name ⊕ literal (codes "=") refl ⊕ found_tree t

clusters : (trees : List (Result TreeView Reason)) (place : ℕ) (cs : List ClusterEntry) → NoFeed (clusters_from trees place cs)
unfolding clusters_from
clusters trees place [] = nothing
clusters trees place (c ∷ cs) = cluster c (slice_get trees place) ⊕ clusters trees (place + 1) cs

pub snapshot_rest : (s : Snapshot) → NoFeed (codes "snap " ++ decimal s.number ++ codes " front=" ++ front_text s.config.front ++ clusters_from s.trees 0 s.config.clusters)
snapshot_rest s = literal (codes "snap ") refl ⊕ number s.number ⊕ literal (codes " front=") refl ⊕ front s.config.front ⊕ clusters s.trees 0 s.config.clusters

-- ---- a caller's line

called : (e : CallerEvent) → NoFeed (caller_event_text e)
called (CallerEvent.Pin call) = literal (codes "pin ") refl ⊕ number call.id.0
called (CallerEvent.Hold call) = literal (codes "hold ") refl ⊕ number call.id.0
called (CallerEvent.Pick id word) = literal (codes "pick ") refl ⊕ number id.0
called (CallerEvent.Commit id) = literal (codes "commit ") refl ⊕ number id.0

at : (n : ℕ) → NoFeed (at_text n)
at n = literal (codes " at ") refl ⊕ number n

answer : (s : Option Snapshot) (a : RouteAnswer) → NoFeed (answer_text s a)
answer s (RouteAnswer.To route choice) = literal (codes "to ") refl ⊕ number route ⊕ literal (codes " ") refl ⊕ named (cluster_in s (RouteAnswer.To route choice))
answer s RouteAnswer.NoRoute = literal _ refl
answer s (RouteAnswer.NoAction route) = literal (codes "noaction ") refl ⊕ number route
answer s (RouteAnswer.NoFront r) = literal (codes "nofront ") refl ⊕ reason r

-- the address in a reply, empty where it has none
abbrev pub reply_address : Option Picker → CallerReply → List ℕ
reply_address picker (CallerReply.Endpoint number child locality place) =
    unwrap_or (option_and_then (λ p. address_of p locality place) picker) []
reply_address picker _ = []

replied : (s : Option Snapshot) (c : Option (List ℕ)) (r : CallerReply) → NoFeed (reply_address (picker_in s c) r) → NoFeed (caller_reply_text s c r)
replied s c (CallerReply.Pinned n) h = literal (codes "at ") refl ⊕ number n
replied s c CallerReply.NoSnapshot h = literal _ refl
replied s c (CallerReply.Routed n a) h = answer s a ⊕ at n
replied s c (CallerReply.Endpoint n k locality place) h =
    literal (codes "endpoint ") refl ⊕ h ⊕ at n ⊕ literal (codes " child ") refl ⊕ number k ⊕ literal (codes " locality ") refl ⊕ number locality
    ⊕ literal (codes " place ") refl ⊕ number place
replied s c (CallerReply.Queue n) h = literal (codes "queue") refl ⊕ at n
replied s c (CallerReply.Fail n r) h = literal (codes "fail ") refl ⊕ reason r ⊕ at n
replied s c (CallerReply.Drop n rule) h = literal (codes "drop ") refl ⊕ named (option_and_then (λ p. category_of p rule) (picker_in s c)) ⊕ at n
replied s c CallerReply.NotHeld h = literal _ refl
replied s c CallerReply.Released h = literal _ refl

-- ---- what stands behind the actor of an entry, without its line feed

abbrev pub driver_rest : List AuthorityEntry → DriverEvent → DriverReply → List ℕ
driver_rest authorities e r = event_text authorities e ++ codes " " ++ outcome_text e r.verdict ++ missing_text r.missing

pub driver_one_line : (authorities : List AuthorityEntry) (e : DriverEvent) (r : DriverReply) → NoFeed (event_address e) → NoFeed (driver_rest authorities e r)
driver_one_line authorities e r h = event authorities e h ⊕ literal (codes " ") refl ⊕ outcome e r.verdict ⊕ missing r.missing

abbrev pub caller_rest : Option Snapshot → Option (List ℕ) → CallerEvent → CallerReply → List ℕ
caller_rest s c e r = caller_event_text e ++ codes " " ++ caller_reply_text s c r

pub caller_one_line : (s : Option Snapshot) (c : Option (List ℕ)) (e : CallerEvent) (r : CallerReply) → NoFeed (reply_address (picker_in s c) r) → NoFeed (caller_rest s c e r)
caller_one_line s c e r h = called e ⊕ literal (codes " ") refl ⊕ replied s c r h
