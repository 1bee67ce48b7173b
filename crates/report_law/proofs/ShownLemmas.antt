-- The entries of a right history's journal are shown as those of the history.
use Rattle.std.proofs.Common.{◌≡◌, ℕ, ◌==◌, Bool, true, false, Option, Some, None, Result, Ok, Err, List, [], ◌∷◌, ◌++◌, refl, sym, ap, ◌∙◌, if◌then◌else◌, eq-eqb, option_map, option_and_then, option_to_list, unwrap_or, append_assoc, is_some}
use Rattle.std.specs.Option.{option_map_or, option_or}
use Rattle.xc_base.specs.declared.names.CallId.{CallId}
use Rattle.xc_base.specs.declared.call.Call.{Call}
use Rattle.xc_base.specs.declared.reason.Reason.{Reason}
use Rattle.xds_config.specs.declared.config.Config.{Config}
use Rattle.xds_config.specs.declared.config.Front.{Front}
use Rattle.route_match.specs.Routes.{route}
use Rattle.route_match.specs.declared.answer.RouteAnswer.{RouteAnswer}
use Rattle.weighted_lb.specs.declared.picker.Chosen.{Chosen}
use Rattle.weighted_lb.specs.declared.picker.Part.{Part}
use Rattle.weighted_lb.specs.Pick.{choice}
use Rattle.tree_steps.specs.declared.tree_view.TreeView.{TreeView}
use Rattle.cluster_tree.specs.declared.snapshot.Snapshot.{Snapshot}
use Rattle.call_journal.specs.declared.event.CallerEvent.{CallerEvent}
use Rattle.call_journal.specs.declared.reply.CallerReply.{CallerReply}
use Rattle.call_journal.specs.declared.entry.What.{What}
use Rattle.call_journal.specs.declared.entry.Entry.{Entry}
use Rattle.config_assembly.specs.Orders.{Name}
use Rattle.report_parts.specs.Callers.{cluster_in, cluster_of_front}
use Rattle.legal_history.specs.report_text.ReportLines.{Shown}
use Rattle.report_writer.specs.JournalReport as journal
use Rattle.legal_history.specs.xds_history.Setting.{Setting}
use Rattle.legal_history.specs.xds_history.declared.page.Page.{Page}
use Rattle.legal_history.specs.xds_history.declared.page.ClusterTrees.{ClusterTrees}
use Rattle.legal_history.specs.xds_history.Page.{latest, trees_now}
use Rattle.legal_history.specs.xds_history.References.{held, holds_after, pinned, routed_to, snapshot_at}
use Rattle.legal_history.specs.xds_history.Trees.{Present, trees_after}
use Rattle.legal_history.specs.xds_history.Pickers.{views}
use Rattle.legal_history.specs.xds_history.Picks.{endpoint_reply, held_reply, part_at, reply_of, view_in, view_reply}
use Rattle.legal_history.specs.xds_history.Pages.{pages, page_of, present_after, snapshot_of}
use Rattle.legal_history.specs.xds_history.Right.{Right, IsNumber, caller_reply, commit_reply, hold_reply, pin_reply, standing}
use Rattle.legal_history.proofs.xds_history.LawProofs.{entry_of}
use Rattle.legal_history.proofs.xds_history.KeepProofs.{config_at}
use Rattle.legal_history.specs.Report as history
use Rattle.legal_history.specs.xds_history.References.{snapshots_of}
use Rattle.report_law.proofs.PublishedLemmas.{AreCounted, are_counted, number_kept}

-- ---- a caller's reply names a snapshot that stands

abbrev Stands : List Page → CallerReply → Type 0
Stands ps reply = (n : ℕ) → history.number_in reply ≡ Some n → (x : Snapshot) × (snapshot_at n ps ≡ Some x)

found_first : (o : Option Snapshot) (ps : List Page) (x : Snapshot) → (latest ps ≡ Some x → snapshot_at x.number ps ≡ Some x) → option_or o (latest ps) ≡ Some x
    → option_or (option_and_then (λ y. if y.number == x.number then Some y else None) o) (snapshot_at x.number ps) ≡ Some x
found_first None ps x older is = older is
found_first (Some y) ps x older is =
    let same : y ≡ x = cc is in
    ap (λ b. option_or (if b then Some y else None) (snapshot_at x.number ps)) (eq-eqb y.number x.number (ap (λ (z : Snapshot). z.number) same)) ∙ ap Some same

latest_found : (ps : List Page) (x : Snapshot) → latest ps ≡ Some x → snapshot_at x.number ps ≡ Some x
latest_found [] x is = absurd (cc is)
latest_found (p ∷ ps) x is = found_first p.snapshot ps x (latest_found ps x) is

pin_stands : (ps : List Page) (o : Option Snapshot) → latest ps ≡ o → Stands ps (pin_reply (option_map (λ x. x.number) o))
pin_stands ps None is n named = absurd (cc named)
pin_stands ps (Some x) is n named =
    let same : x.number ≡ n = cc named in
    (x, ap (λ m. snapshot_at m ps) (sym same) ∙ latest_found ps x is)

hold_by : (ps : List Page) (call : Call) (number : ℕ) (o : Option Snapshot) → snapshot_at number ps ≡ o → Stands ps (option_map_or (λ x. CallerReply.Routed number (route x.config.front call)) o CallerReply.NoSnapshot)
hold_by ps call number None is n named = absurd (cc named)
hold_by ps call number (Some x) is n named =
    let same : number ≡ n = cc named in
    (x, ap (λ m. snapshot_at m ps) (sym same) ∙ is)

hold_stands : (ps : List Page) (call : Call) (o : Option ℕ) → Stands ps (hold_reply ps call o)
hold_stands ps call None n named = absurd (cc named)
hold_stands ps call (Some number) n named = hold_by ps call number (snapshot_at number ps) refl n named

-- what a pick is answered names the number of its snapshot
part_named : (ps : List Page) (cluster : Name) (number child : ℕ) (o : Option Part) → history.number_in (option_map_or (endpoint_reply ps cluster number child) o (CallerReply.Queue number)) ≡ Some number
part_named ps cluster number child None = refl
part_named ps cluster number child (Some part) = refl

choice_named : (ps : List Page) (cluster : Name) (number : ℕ) (view : TreeView) (chosen : Chosen) → history.number_in (reply_of ps cluster number view chosen) ≡ Some number
choice_named ps cluster number view (Chosen.Drop rule) = refl
choice_named ps cluster number view Chosen.Queue = refl
choice_named ps cluster number view Chosen.Fail = refl
choice_named ps cluster number view (Chosen.Part place) = part_named ps cluster number view.chosen (part_at view.picker.body place)

view_named : (ps : List Page) (cluster : Name) (number word : ℕ) (view : Result TreeView Reason) → history.number_in (view_reply ps cluster number word view) ≡ Some number
view_named ps cluster number word (Err reason) = refl
view_named ps cluster number word (Ok view) = choice_named ps cluster number view (choice view.picker word)

view_stands : (ps : List Page) (cluster : Name) (word : ℕ) (x : Snapshot) (o : Option (Result TreeView Reason)) → latest ps ≡ Some x → Stands ps (option_map_or (view_reply ps cluster x.number word) o CallerReply.NotHeld)
view_stands ps cluster word x None is n named = absurd (cc named)
view_stands ps cluster word x (Some view) is n named =
    let same : x.number ≡ n = cc (view_named ps cluster x.number word view, named) in
    (x, ap (λ m. snapshot_at m ps) (sym same) ∙ latest_found ps x is)

pick_stands : (ps : List Page) (word : ℕ) (cluster : Option Name) (o : Option Snapshot) → latest ps ≡ o → Stands ps (held_reply ps word cluster o)
pick_stands ps word None None is n named = absurd (cc named)
pick_stands ps word None (Some x) is n named = absurd (cc named)
pick_stands ps word (Some cluster) None is n named = absurd (cc named)
pick_stands ps word (Some cluster) (Some x) is n named = view_stands ps cluster word x (view_in x cluster) is n named

commit_stands : (ps : List Page) (b : Bool) → Stands ps (commit_reply b)
commit_stands ps true n named = absurd (cc named)
commit_stands ps false n named = absurd (cc named)

reply_stands : (ps : List Page) (event : CallerEvent) → Stands ps (caller_reply ps event)
reply_stands ps (CallerEvent.Pin call) n named = pin_stands ps (latest ps) refl n named
reply_stands ps (CallerEvent.Hold call) n named = hold_stands ps call (pinned ps call.id) n named
reply_stands ps (CallerEvent.Pick id word) n named = pick_stands ps word (held ps id) (latest ps) refl n named
reply_stands ps (CallerEvent.Commit id) n named = commit_stands ps (is_some (held ps id)) n named

-- ---- the snapshot that an entry names

-- it has its number's place among those of the whole history
in_place : (ps : List Page) (published rest : List Snapshot) (n : ℕ) (x : Snapshot) → AreCounted ps → published ≡ snapshots_of ps ++ rest → snapshot_at n ps ≡ Some x → journal.numbered published n ≡ Some x
in_place ps published rest n x counted is found =
    ap (λ xs. journal.numbered xs n) is ∙ number_kept (snapshots_of ps) rest n x (sym (counted.at n) ∙ found)

one_number : (reply : CallerReply) → journal.number_in_reply reply ≡ history.number_in reply
one_number (CallerReply.Pinned number) = refl
one_number CallerReply.NoSnapshot = refl
one_number (CallerReply.Routed number answer) = refl
one_number (CallerReply.Endpoint number child locality place) = refl
one_number (CallerReply.Queue number) = refl
one_number (CallerReply.Fail number reason) = refl
one_number (CallerReply.Drop number rule) = refl
one_number CallerReply.NotHeld = refl
one_number CallerReply.Released = refl

named_by : (ps : List Page) (published rest : List Snapshot) (o : Option ℕ) → AreCounted ps → published ≡ snapshots_of ps ++ rest → ((n : ℕ) → o ≡ Some n → (x : Snapshot) × (snapshot_at n ps ≡ Some x))
    → option_and_then (journal.numbered published) o ≡ option_and_then (λ n. snapshot_at n ps) o
named_by ps published rest None counted is stands = refl
named_by ps published rest (Some n) counted is stands =
    let (x, found) = stands n refl in
    in_place ps published rest n x counted is found ∙ sym found

caller_named : (ps : List Page) (published rest : List Snapshot) (event : CallerEvent) (reply : CallerReply) → AreCounted ps → published ≡ snapshots_of ps ++ rest → reply ≡ caller_reply ps event
    → option_and_then (journal.numbered published) (journal.number_in_reply reply) ≡ option_and_then (λ n. snapshot_at n ps) (history.number_in reply)
caller_named ps published rest event reply counted is right =
    ap (λ o. option_and_then (journal.numbered published) o) (one_number reply)
    ∙ named_by ps published rest (history.number_in reply) counted is (λ n named. reply_stands ps event n (ap history.number_in (sym right) ∙ named))

driver_named : (p : Page) (ps : List Page) (present : Present) (config : Option Config) (trees : List ClusterTrees) (number : Option ℕ) (published rest : List Snapshot) → AreCounted (p ∷ ps) → published ≡ snapshots_of (p ∷ ps) ++ rest
    → p.snapshot ≡ option_and_then (snapshot_of present config trees) number → IsNumber (standing present config trees) (latest ps) number → option_and_then (journal.numbered published) number ≡ p.snapshot
driver_named p ps present config trees None published rest counted is made right = sym made
driver_named p ps present None trees (Some n) published rest counted is made right = absurd (cc right)
driver_named p ps present (Some config) trees (Some n) published rest counted is made right =
    let x : Snapshot = record { number = n; config = config; trees = views present.state trees config } in
    let found : snapshot_at n (p ∷ ps) ≡ Some x =
    ap (λ o. option_or (option_and_then (λ y. if y.number == n then Some y else None) o) (snapshot_at n ps)) made
    ∙ ap (λ b. option_or (if b then Some x else None) (snapshot_at n ps)) (eq-eqb n n refl) in
    in_place (p ∷ ps) published rest n x counted is found ∙ sym made

-- a page for an entry of this kind
abbrev page_at : Setting → ℕ → ℕ → What → List Entry → Page
page_at s actor line what past = page_of s (entry_of actor line what) what past (pages s past)

-- the snapshots up to an entry, and those behind it
older : (s : Setting) (published rest : List Snapshot) (actor line : ℕ) (what : What) (past : List Entry) → published ≡ snapshots_of (page_at s actor line what past ∷ pages s past) ++ rest
    → published ≡ snapshots_of (pages s past) ++ (option_to_list (page_at s actor line what past).snapshot ++ rest)
older s published rest actor line what past is = is ∙ append_assoc (snapshots_of (pages s past)) (option_to_list (page_at s actor line what past).snapshot) rest

same_named : (s : Setting) (published rest : List Snapshot) (actor line : ℕ) (what : What) (past : List Entry) → Right s (entry_of actor line what ∷ past) → published ≡ snapshots_of (page_at s actor line what past ∷ pages s past) ++ rest
    → journal.named_in published what ≡ history.named_in (page_at s actor line what past) (pages s past) what
same_named s published rest actor line (What.Driver event reply) past right is =
    driver_named (page_at s actor line (What.Driver event reply) past) (pages s past) (present_after past event) (config_at s event reply past (pages s past))
    (trees_after (present_after past event) (trees_now (pages s past)) (config_at s event reply past (pages s past))) reply.snapshot published rest
    (are_counted s (entry_of actor line (What.Driver event reply) ∷ past) right) is refl right.0.number_is
same_named s published rest actor line (What.Caller event reply) past right is =
    caller_named (pages s past) published (option_to_list (page_at s actor line (What.Caller event reply) past).snapshot ++ rest) event reply (are_counted s past right.1) (older s published rest actor line (What.Caller event reply) past is) right.0

-- ---- what calls hold

front_leads : (front : Result Front Reason) (answer : RouteAnswer) → cluster_of_front front answer ≡ routed_to front answer
front_leads (Ok front) answer = refl
front_leads (Err reason) answer = refl

snapshot_leads : (o : Option Snapshot) (answer : RouteAnswer) → cluster_in o answer ≡ option_and_then (λ x. routed_to x.config.front answer) o
snapshot_leads None answer = refl
snapshot_leads (Some x) answer = front_leads x.config.front answer

-- what a call holds after an entry, where the entry names its snapshot alike
same_holds : (ps : List Page) (published : List Snapshot) (p : Page) (id : CallId) (what : What) → journal.named_in published what ≡ history.named_in p ps what
    → journal.holds_after (journal.named_in published what) id.0 what ≡ holds_after id what ps
same_holds ps published p id (What.Driver event reply) named = refl
same_holds ps published p id (What.Caller (CallerEvent.Pin call) reply) named = refl
same_holds ps published p id (What.Caller (CallerEvent.Pick call word) reply) named = refl
same_holds ps published p id (What.Caller (CallerEvent.Commit call) reply) named = refl
same_holds ps published p id (What.Caller (CallerEvent.Hold call) (CallerReply.Pinned number)) named = refl
same_holds ps published p id (What.Caller (CallerEvent.Hold call) CallerReply.NoSnapshot) named = refl
same_holds ps published p id (What.Caller (CallerEvent.Hold call) (CallerReply.Routed number answer)) named =
    ap (λ c. if call.id.0 == id.0 then Some c else None) (ap (λ o. cluster_in o answer) named ∙ snapshot_leads (snapshot_at number ps) answer)
same_holds ps published p id (What.Caller (CallerEvent.Hold call) (CallerReply.Endpoint number child locality place)) named = refl
same_holds ps published p id (What.Caller (CallerEvent.Hold call) (CallerReply.Queue number)) named = refl
same_holds ps published p id (What.Caller (CallerEvent.Hold call) (CallerReply.Fail number reason)) named = refl
same_holds ps published p id (What.Caller (CallerEvent.Hold call) (CallerReply.Drop number rule)) named = refl
same_holds ps published p id (What.Caller (CallerEvent.Hold call) CallerReply.NotHeld) named = refl
same_holds ps published p id (What.Caller (CallerEvent.Hold call) CallerReply.Released) named = refl

-- a page has its entry
own_entry : (s : Setting) (actor line : ℕ) (what : What) (past : List Entry) → (page_at s actor line what past).entry ≡ entry_of actor line what
own_entry s actor line (What.Driver event reply) past = refl
own_entry s actor line (What.Caller event reply) past = refl

same_held : (s : Setting) (published rest : List Snapshot) (past : List Entry) → Right s past → published ≡ snapshots_of (pages s past) ++ rest → (id : CallId) → journal.held_after published past id.0 ≡ held (pages s past) id
same_held s published rest [] right is id = refl
same_held s published rest (e ∷ past) right is id =
    let p : Page = page_at s e.actor e.line e.what past in
    let named = same_named s published rest e.actor e.line e.what past right is in
    let before = same_held s published (option_to_list p.snapshot ++ rest) past right.1 (older s published rest e.actor e.line e.what past is) id in
    ap (λ o. unwrap_or o (journal.held_after published past id.0)) (same_holds (pages s past) published p id e.what named)
    ∙ ap (λ o. unwrap_or (holds_after id e.what (pages s past)) o) before
    ∙ ap (λ (x : Entry). unwrap_or (holds_after id x.what (pages s past)) (held (pages s past) id)) (sym (own_entry s e.actor e.line e.what past))

-- ---- entries as they are shown

abbrev shown_of : Entry → Option Snapshot → Option Name → Shown
shown_of e snapshot cluster = record { entry = e; snapshot = snapshot; cluster = cluster }

same_picked : (ps : List Page) (before : ℕ → Option Name) (what : What) → ((id : CallId) → before id.0 ≡ held ps id) → journal.picked_in before what ≡ history.picked_in ps what
same_picked ps before (What.Driver event reply) same = refl
same_picked ps before (What.Caller (CallerEvent.Pin call) reply) same = refl
same_picked ps before (What.Caller (CallerEvent.Hold call) reply) same = refl
same_picked ps before (What.Caller (CallerEvent.Pick id word) reply) same = same id
same_picked ps before (What.Caller (CallerEvent.Commit id) reply) same = refl

same_entry : (s : Setting) (published rest : List Snapshot) (actor line : ℕ) (what : What) (past : List Entry) → Right s (entry_of actor line what ∷ past) → published ≡ snapshots_of (page_at s actor line what past ∷ pages s past) ++ rest
    → journal.shown_as published (entry_of actor line what) past ≡ history.shown_entry (page_at s actor line what past) (pages s past)
same_entry s published rest actor line what past right is =
    let p : Page = page_at s actor line what past in
    let e : Entry = entry_of actor line what in
    let named = same_named s published rest actor line what past right is in
    let picked = same_picked (pages s past) (journal.held_after published past) what (same_held s published (option_to_list p.snapshot ++ rest) past right.1 (older s published rest actor line what past is)) in
    ap (λ o. shown_of e o (journal.picked_in (journal.held_after published past) what)) named
    ∙ ap (λ o. shown_of e (history.named_in p (pages s past) what) o) picked
    ∙ ap (λ (x : Entry). shown_of x (history.named_in p (pages s past) x.what) (history.picked_in (pages s past) x.what)) (sym (own_entry s actor line what past))

pub same_shown : (s : Setting) (published rest : List Snapshot) (past : List Entry) → Right s past → published ≡ snapshots_of (pages s past) ++ rest → journal.shown_entries published past ≡ history.shown_entries (pages s past)
same_shown s published rest [] right is = refl
same_shown s published rest (e ∷ past) right is =
    let p : Page = page_at s e.actor e.line e.what past in
    let before = same_shown s published (option_to_list p.snapshot ++ rest) past right.1 (older s published rest e.actor e.line e.what past is) in
    ap (λ xs. xs ++ (journal.shown_as published e past ∷ [])) before
    ∙ ap (λ x. history.shown_entries (pages s past) ++ (x ∷ [])) (same_entry s published rest e.actor e.line e.what past right is)
