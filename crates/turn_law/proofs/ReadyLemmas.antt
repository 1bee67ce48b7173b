-- An endpoint that is picked is READY, so an entry of the history has its address.
use Rattle.std.proofs.Common.{◌≡◌, ℕ, zero, suc, List, [], ◌∷◌, All, map, Bool, true, false, cond, eqb, Option, Some, None, Result, Ok, Err, refl, subst}
use Rattle.std.specs.List.{cons_option, enumerate_from, filter, filter_map, find, slice_get}
use Rattle.std.specs.Option.{option_and_then, option_map_or, option_or, unwrap_or}
use Rattle.std.specs.Str.{bytes_eq}
use Rattle.std.proofs.lemmas.List.Elements.{All-cons, All-head, All-nil, All-tail, All-weaker, filter_passes}
use Rattle.std.proofs.lemmas.Slice.Eq.{bytes_eq-Decides}
use Rattle.xc_base.specs.declared.names.State.{State}
use Rattle.xc_base.specs.declared.reason.Reason.{Reason}
use Rattle.xds_config.specs.Configs.{cluster_place}
use Rattle.xds_config.specs.declared.endpoint_values.Locality.{Locality}
use Rattle.xds_config.specs.declared.config.ClusterEntry.{ClusterEntry}
use Rattle.xds_config.specs.declared.config.Config.{Config}
use Rattle.xds_config.specs.declared.config.Leaf.{Leaf}
use Rattle.xds_config.specs.declared.config.Leaves.{Leaves}
use Rattle.weighted_lb.specs.States.{is_ready}
use Rattle.weighted_lb.specs.declared.picker.Part.{Part}
use Rattle.weighted_lb.specs.declared.picker.Picker.{Picker}
use Rattle.priority_lb.specs.declared.facts.ChildFacts.{ChildFacts}
use Rattle.priority_lb.specs.ChildHistories as children
use Rattle.graceful_switch.specs.Takeover.{Pair}
use Rattle.tree_steps.specs.declared.tree_view.TreeView.{TreeView}
use Rattle.cluster_tree.specs.declared.snapshot.Snapshot.{Snapshot}
use Rattle.call_journal.specs.declared.event.DriverEvent.{DriverEvent}
use Rattle.call_journal.specs.declared.reply.CallerReply.{CallerReply}
use Rattle.call_journal.specs.declared.entry.Entry.{Entry}
use Rattle.call_journal.specs.declared.entry.What.{What}
use Rattle.config_assembly.specs.Orders.{Name}
use Rattle.report_parts.specs.Callers as report
use Rattle.text_law.specs.xds_history.Clock.{reported_by, state}
use Rattle.text_law.specs.xds_history.Pages.{page_of, pages, present_after, snapshot_of}
use Rattle.text_law.specs.xds_history.Pickers.{child_localities, cluster_view, leaf_named, no_picker, part_of, picker, picker_at, picker_in, view_with}
use Rattle.text_law.specs.xds_history.References.{snapshot_at}
use Rattle.text_law.specs.xds_history.Setting.{Setting}
use Rattle.text_law.specs.xds_history.Trees.{Present, chosen_child, trees_of}
use Rattle.text_law.specs.xds_history.declared.page.ClusterTrees.{ClusterTrees}
use Rattle.text_law.specs.xds_history.declared.page.Page.{Page}
use Rattle.text_law.specs.xds_history.declared.page.Tree.{Tree}
use Rattle.text_law.specs.legal_history.Report.{number_in}
use Rattle.turn_law.specs.TurnLaw.{IsTurn, address_in, event_address}
use Rattle.turn_law.proofs.FeedLemmas.{NoFeed, nothing, plain, reply_address}

-- ---- addresses that are READY

-- the addresses that these states call READY have no line feed
abbrev ArePlain : (Name → State) → Type 0
ArePlain states = (address : Name) → is_ready (states address) ≡ true → NoFeed address

told : (t : Bool) (other address : Name) (now before : State) → bytes_eq other address ≡ t → NoFeed other → (is_ready before ≡ true → NoFeed address)
    → is_ready (cond t now before) ≡ true → NoFeed address
told true other address now before is h k ready = subst NoFeed ((bytes_eq-Decides other address).0 is) h
told false other address now before is h k ready = k ready

told_by : (what : What) (address : Name) (before : State) → NoFeed (address_in what) → (is_ready before ≡ true → NoFeed address)
    → is_ready (reported_by what address before) ≡ true → NoFeed address
told_by (What.Driver (DriverEvent.Endpoint other now) reply) address before h k ready = told (bytes_eq other address) other address now before refl h k ready
told_by (What.Driver (DriverEvent.Opened a) reply) address before h k ready = k ready
told_by (What.Driver (DriverEvent.Response a payload) reply) address before h k ready = k ready
told_by (What.Driver (DriverEvent.Bytes a how) reply) address before h k ready = k ready
told_by (What.Driver (DriverEvent.Lost a) reply) address before h k ready = k ready
told_by (What.Driver (DriverEvent.Moment t) reply) address before h k ready = k ready
told_by (What.Driver DriverEvent.Sweep reply) address before h k ready = k ready
told_by (What.Caller event reply) address before h k ready = k ready

plain_entry : (e : Entry) → IsTurn e → NoFeed (address_in e.what)
plain_entry e is = plain (address_in e.what) is.one_line

-- no address is READY before one was reported
plain_states : (past : List Entry) → All IsTurn past → ArePlain (state past)
plain_states [] are address ready = absurd (cc ready)
plain_states (e ∷ past) are address ready =
    told_by e.what address (state past address) (plain_entry e (All-head IsTurn e past are)) (plain_states past (All-tail IsTurn e past are) address) ready

-- ---- pickers

abbrev IsPlain : Part → Type 0
IsPlain part = All NoFeed part.ready

abbrev pub IsPlainPicker : Picker → Type 0
IsPlainPicker p = All IsPlain (report.parts_of p.body)

one_part : (states : Name → State) (at : ℕ × Locality) (more : List Part) (ready : List Name) → filter (λ address. is_ready (states address)) at.1.addresses ≡ ready
    → All NoFeed ready → All IsPlain more → All IsPlain (cons_option (part_of states at) more)
one_part states at more [] is h k = rw is k
one_part states at more (address ∷ ready) is h k = rw is (All-cons IsPlain record { locality = at.0; weight = at.1.weight; ready = address ∷ ready } more h k)

plain_parts : (states : Name → State) (at : List (ℕ × Locality)) → ArePlain states → All IsPlain (filter_map (part_of states) at)
plain_parts states [] h = All-nil IsPlain
plain_parts states (l ∷ ls) h =
    let ready : List Name = filter (λ address. is_ready (states address)) l.1.addresses in
    let passed : All (λ address. is_ready (states address) ≡ true) ready = filter_passes (λ address. is_ready (states address)) l.1.addresses in
    one_part states l (filter_map (part_of states) ls) ready refl (All-weaker (λ address. is_ready (states address) ≡ true) NoFeed h ready passed) (plain_parts states ls h)

plain_in : (states : Name → State) (leaf : Option Leaf) (localities : List Locality) (s : State) → ArePlain states → IsPlainPicker (picker_in states leaf localities s)
plain_in states leaf localities State.Ready h = plain_parts states (enumerate_from 0 localities) h
plain_in states leaf localities State.Connecting h = All-nil IsPlain
plain_in states leaf localities State.Failing h = All-nil IsPlain

plain_at : (states : Name → State) (tree : Tree) (child : Option (children.Name × ChildFacts)) → ArePlain states → IsPlainPicker (option_map_or (picker_at states tree) child no_picker)
plain_at states tree None h = All-nil IsPlain
plain_at states tree (Some child) h = plain_in states (leaf_named tree child.0.0) (child_localities tree child.0) child.1.state h

plain_picker : (states : Name → State) (tree : Tree) → ArePlain states → IsPlainPicker (picker states tree)
plain_picker states tree h = plain_at states tree (chosen_child tree) h

-- ---- views

abbrev IsPlainView : Result TreeView Reason → Type 0
IsPlainView (Ok tree) = IsPlainPicker tree.picker
IsPlainView (Err reason) = Unit {0}

plain_with : (states : Name → State) (trees : Option (Pair Tree)) → ArePlain states → IsPlainView (view_with states trees)
plain_with states None h = tt
plain_with states (Some trees) h = plain_picker states trees.serving h

plain_cluster : (states : Name → State) (trees : List ClusterTrees) (entry : ClusterEntry) (leaves : Result Leaves Reason) → entry.state ≡ leaves → ArePlain states
    → IsPlainView (cluster_view states trees entry)
plain_cluster states trees entry (Ok leaves) is h = rw is (plain_with states (trees_of entry.name trees) h)
plain_cluster states trees entry (Err reason) is h = rw is tt

plain_views : (states : Name → State) (trees : List ClusterTrees) (clusters : List ClusterEntry) → ArePlain states → All IsPlainView (map (cluster_view states trees) clusters)
plain_views states trees [] h = All-nil IsPlainView
plain_views states trees (c ∷ cs) h =
    All-cons IsPlainView (cluster_view states trees c) (map (cluster_view states trees) cs) (plain_cluster states trees c c.state refl h) (plain_views states trees cs h)

-- ---- snapshots

abbrev pub IsPlainSnapshot : Option Snapshot → Type 0
IsPlainSnapshot None = Unit {0}
IsPlainSnapshot (Some s) = All IsPlainView s.trees

plain_published : (present : Present) (config : Option Config) (trees : List ClusterTrees) (number : Option ℕ) → ArePlain present.state
    → IsPlainSnapshot (option_and_then (snapshot_of present config trees) number)
plain_published present config trees None h = tt
plain_published present None trees (Some n) h = tt
plain_published present (Some config) trees (Some n) h = plain_views present.state trees config.clusters h

plain_page : (s : Setting) (e : Entry) (what : What) (past : List Entry) (ps : List Page) → e.what ≡ what → IsTurn e → All IsTurn past → IsPlainSnapshot (page_of s e what past ps).snapshot
plain_page s e (What.Driver event reply) past ps is here are =
    let plain_one : NoFeed (event_address event) = subst (λ (w : What). NoFeed (address_in w)) is (plain_entry e here) in
    plain_published (present_after past event) (page_of s e (What.Driver event reply) past ps).config (page_of s e (What.Driver event reply) past ps).trees reply.snapshot
    (λ address. told_by (What.Driver event reply) address (state past address) plain_one (plain_states past are address))
plain_page s e (What.Caller event reply) past ps is here are = tt

abbrev IsPlainPage : Page → Type 0
IsPlainPage p = IsPlainSnapshot p.snapshot

plain_pages : (s : Setting) (past : List Entry) → All IsTurn past → All IsPlainPage (pages s past)
plain_pages s [] are = All-nil IsPlainPage
plain_pages s (e ∷ past) are =
    let here = All-head IsTurn e past are in
    let before = All-tail IsTurn e past are in
    All-cons IsPlainPage (page_of s e e.what past (pages s past)) (pages s past) (plain_page s e e.what past (pages s past) refl here before) (plain_pages s past before)

plain_numbered : (b : Bool) (x : Snapshot) → IsPlainSnapshot (Some x) → IsPlainSnapshot (cond b (Some x) None)
plain_numbered true x h = h
plain_numbered false x h = tt

plain_found : (number : ℕ) (x : Option Snapshot) → IsPlainSnapshot x → IsPlainSnapshot (option_and_then (λ y. cond (eqb y.number number) (Some y) None) x)
plain_found number None h = tt
plain_found number (Some x) h = plain_numbered (eqb x.number number) x h

plain_or : (one other : Option Snapshot) → IsPlainSnapshot one → IsPlainSnapshot other → IsPlainSnapshot (option_or one other)
plain_or None other h k = k
plain_or (Some x) other h k = h

plain_snapshot : (number : ℕ) (ps : List Page) → All IsPlainPage ps → IsPlainSnapshot (snapshot_at number ps)
plain_snapshot number [] are = tt
plain_snapshot number (p ∷ ps) are =
    plain_or (option_and_then (λ y. cond (eqb y.number number) (Some y) None) p.snapshot) (snapshot_at number ps)
    (plain_found number p.snapshot (All-head IsPlainPage p ps are)) (plain_snapshot number ps (All-tail IsPlainPage p ps are))

-- ---- the address of a reply

plain_place : (xs : List (List ℕ)) (i : ℕ) → All NoFeed xs → NoFeed (unwrap_or (slice_get xs i) [])
plain_place [] i are = nothing
plain_place (x ∷ xs) zero are = All-head NoFeed x xs are
plain_place (x ∷ xs) (suc i) are = plain_place xs i (All-tail NoFeed x xs are)

plain_here : (b : Bool) (part : Part) (rest : Option Part) (place : ℕ) → IsPlain part → NoFeed (unwrap_or (option_and_then (λ p. slice_get p.ready place) rest) [])
    → NoFeed (unwrap_or (option_and_then (λ p. slice_get p.ready place) (cond b (Some part) rest)) [])
plain_here true part rest place h k = plain_place part.ready place h
plain_here false part rest place h k = k

plain_part : (parts : List Part) (locality place : ℕ) → All IsPlain parts
    → NoFeed (unwrap_or (option_and_then (λ part. slice_get part.ready place) (find (λ part. eqb part.locality locality) parts)) [])
plain_part [] locality place are = nothing
plain_part (p ∷ ps) locality place are =
    plain_here (eqb p.locality locality) p (find (λ part. eqb part.locality locality) ps) place (All-head IsPlain p ps are) (plain_part ps locality place (All-tail IsPlain p ps are))

abbrev IsPlainFound : Option Picker → Type 0
IsPlainFound None = Unit {0}
IsPlainFound (Some p) = IsPlainPicker p

plain_tree : (trees : List (Result TreeView Reason)) (place : ℕ) → All IsPlainView trees → IsPlainFound (option_and_then report.picker_of_tree (slice_get trees place))
plain_tree [] place are = tt
plain_tree (Ok tree ∷ trees) zero are = All-head IsPlainView (Ok tree) trees are
plain_tree (Err reason ∷ trees) zero are = tt
plain_tree (tree ∷ trees) (suc place) are = plain_tree trees place (All-tail IsPlainView tree trees are)

plain_trees : (trees : List (Result TreeView Reason)) (place : Option ℕ) → All IsPlainView trees → IsPlainFound (option_and_then (λ at. option_and_then report.picker_of_tree (slice_get trees at)) place)
plain_trees trees None are = tt
plain_trees trees (Some place) are = plain_tree trees place are

plain_of_cluster : (s : Option Snapshot) (cluster : Option (List ℕ)) → IsPlainSnapshot s → IsPlainFound (report.picker_in s cluster)
unfolding report.picker_of_cluster
plain_of_cluster None cluster h = tt
plain_of_cluster (Some s) None h = tt
plain_of_cluster (Some s) (Some cluster) h = plain_trees s.trees (cluster_place s.config cluster) h

plain_address : (p : Option Picker) (locality place : ℕ) → IsPlainFound p → NoFeed (unwrap_or (option_and_then (λ one. report.address_of one locality place) p) [])
plain_address None locality place h = nothing
plain_address (Some p) locality place h = plain_part (report.parts_of p.body) locality place h

plain_reply : (p : Option Picker) (r : CallerReply) → IsPlainFound p → NoFeed (reply_address p r)
plain_reply p (CallerReply.Pinned n) h = nothing
plain_reply p CallerReply.NoSnapshot h = nothing
plain_reply p (CallerReply.Routed n a) h = nothing
plain_reply p (CallerReply.Endpoint n child locality place) h = plain_address p locality place h
plain_reply p (CallerReply.Queue n) h = nothing
plain_reply p (CallerReply.Fail n r) h = nothing
plain_reply p (CallerReply.Drop n rule) h = nothing
plain_reply p CallerReply.NotHeld h = nothing
plain_reply p CallerReply.Released h = nothing

plain_named : (number : Option ℕ) (ps : List Page) → All IsPlainPage ps → IsPlainSnapshot (option_and_then (λ n. snapshot_at n ps) number)
plain_named None ps are = tt
plain_named (Some n) ps are = plain_snapshot n ps are

-- the address in a caller's reply, by the snapshot that the reply names
pub picked_plain : (s : Setting) (past : List Entry) (cluster : Option (List ℕ)) (r : CallerReply) → All IsTurn past
    → NoFeed (reply_address (report.picker_in (option_and_then (λ n. snapshot_at n (pages s past)) (number_in r)) cluster) r)
picked_plain s past cluster r are =
    plain_reply (report.picker_in (option_and_then (λ n. snapshot_at n (pages s past)) (number_in r)) cluster) r
    (plain_of_cluster (option_and_then (λ n. snapshot_at n (pages s past)) (number_in r)) cluster (plain_named (number_in r) (pages s past) (plain_pages s past are)))
