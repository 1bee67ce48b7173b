-- What a call has pinned and holds on its way, and the snapshot that it has pinned.
use Rattle.std.proofs.Common.{◌≡◌, ℕ, ◌+◌, ◌<◌, ◌==◌, arith, Bool, true, false, ◌&&◌, ◌||◌, not, Option, Some, None, Result, Ok, Err, List, [], ◌∷◌, ◌++◌, refl, sym, ap, ◌∙◌, subst, if◌then◌else◌, eqb-true, ne_eqb, option_map, option_and_then, unwrap_or, IsTrue}
use Rattle.std.specs.Prelude.{Contains}
use Rattle.std.specs.List.{list_all}
use Rattle.std.specs.Option.{option_map_or, option_or}
use Rattle.xc_base.specs.declared.names.CallId.{CallId}
use Rattle.xc_base.specs.declared.call.Call.{Call}
use Rattle.xc_base.specs.declared.reason.Reason.{Reason}
use Rattle.xds_config.specs.declared.config.Front.{Front}
use Rattle.xds_config.specs.declared.config.Config.{Config}
use Rattle.route_match.specs.declared.answer.RouteAnswer.{RouteAnswer}
use Rattle.route_match.specs.Routes.{route}
use Rattle.xds_history.specs.cluster_tree.declared.snapshot.Snapshot.{Snapshot}
use Rattle.call_journal.specs.declared.event.CallerEvent.{CallerEvent}
use Rattle.call_journal.specs.declared.reply.CallerReply.{CallerReply}
use Rattle.call_journal.specs.declared.entry.What.{What}
use Rattle.call_journal.specs.declared.entry.Entry.{Entry}
use Rattle.xds_history.specs.config_assembly.Orders.{Name}
use Rattle.xds_history.specs.config_assembly.Front.{names_of_front}
use Rattle.xds_history.specs.Words.{first_some}
use Rattle.xds_history.specs.Setting.{Setting}
use Rattle.xds_history.specs.declared.page.Page.{Page}
use Rattle.xds_history.specs.declared.page.ClusterTrees.{ClusterTrees}
use Rattle.xds_history.specs.Page.{latest, latest_number, trees_now}
use Rattle.xds_history.specs.References.{snapshot_at, routed_to, found_in, holds_after, held, pins_after, pinned, names_in}
use Rattle.xds_history.specs.Trees.{Present, trees_after}
use Rattle.xds_history.specs.Pages.{pages, page_of, present_after, snapshot_of}
use Rattle.xds_history.specs.Right.{Right, IsReply, IsNumber, standing, pin_reply, hold_reply}
use Rattle.xds_history.specs.HistoryLaws.{HasCluster}
use Rattle.xds_history.proofs.LawProofs.{entry_of}
use Rattle.xds_history.proofs.KeepLemmas.{IsKept, IsAtMost, HasHosts, answer_named, latest_found, same_id}
use Rattle.xds_history.proofs.KeepProofs.{config_at, kept}
use Rattle.call_clusters.specs.CallCourses.{is_pin_of, is_hold_of, is_commit_of, number_in, cluster_in, IsWaiting, IsHolding}

-- ---- tests

pub both : (a b : Bool) → IsTrue (a && b) → IsTrue a × IsTrue b
both true b is = (refl, is)
both false b is = absurd (cc is)

told : {X : Type 0} (b : Bool) (new : X) → IsTrue b → (if b then Some new else None) ≡ Some new
told true new is = refl
told false new is = absurd (cc is)

untold_first : {X : Type 0} (b : Bool) (new : X) → IsTrue (not (b || false)) → (if b then Some new else None) ≡ None
untold_first true new is = absurd (cc is)
untold_first false new is = refl

untold_second : {X : Type 0} (b : Bool) (new : X) → IsTrue (not (false || b)) → (if b then Some new else None) ≡ None
untold_second true new is = absurd (cc is)
untold_second false new is = refl

pub entry_is : (s : Setting) (e : Entry) (w : What) (past : List Entry) (ps : List Page) → (page_of s e w past ps).entry ≡ e
entry_is s e (What.Driver event reply) past ps = refl
entry_is s e (What.Caller event reply) past ps = refl

pub right_middle : (s : Setting) (entries middle past : List Entry) → Right s ((entries ++ middle) ++ past) → Right s (middle ++ past)
right_middle s [] middle past right = right
right_middle s (e ∷ entries) middle past right = right_middle s entries middle past right.1

-- ---- what a call has pinned

pin_untold : (id : CallId) (w : What) → IsTrue (not (is_pin_of id w || is_hold_of id w)) → pins_after id w ≡ None
pin_untold id (What.Driver event reply) is = refl
pin_untold id (What.Caller (CallerEvent.Pin call) (CallerReply.Pinned number)) is = untold_first (call.id.0 == id.0) (Some number) is
pin_untold id (What.Caller (CallerEvent.Pin call) CallerReply.NoSnapshot) is = untold_first (call.id.0 == id.0) None is
pin_untold id (What.Caller (CallerEvent.Pin call) (CallerReply.Routed number answer)) is = untold_first (call.id.0 == id.0) None is
pin_untold id (What.Caller (CallerEvent.Pin call) (CallerReply.Endpoint number child locality place)) is = untold_first (call.id.0 == id.0) None is
pin_untold id (What.Caller (CallerEvent.Pin call) (CallerReply.Queue number)) is = untold_first (call.id.0 == id.0) None is
pin_untold id (What.Caller (CallerEvent.Pin call) (CallerReply.Fail number reason)) is = untold_first (call.id.0 == id.0) None is
pin_untold id (What.Caller (CallerEvent.Pin call) (CallerReply.Drop number rule)) is = untold_first (call.id.0 == id.0) None is
pin_untold id (What.Caller (CallerEvent.Pin call) CallerReply.NotHeld) is = untold_first (call.id.0 == id.0) None is
pin_untold id (What.Caller (CallerEvent.Pin call) CallerReply.Released) is = untold_first (call.id.0 == id.0) None is
pin_untold id (What.Caller (CallerEvent.Hold call) reply) is = untold_second (call.id.0 == id.0) None is
pin_untold id (What.Caller (CallerEvent.Pick call word) reply) is = refl
pin_untold id (What.Caller (CallerEvent.Commit other) reply) is = refl

-- while a call waits, what it has pinned stays
pub pin_stays : (s : Setting) (id : CallId) (waiting past : List Entry) → IsWaiting id waiting → pinned (pages s (waiting ++ past)) id ≡ pinned (pages s past) id
pin_stays s id [] past waits = refl
pin_stays s id (e ∷ waiting) past waits =
    let before : List Entry = waiting ++ past in
    let (first, rest) = both (not (is_pin_of id e.what || is_hold_of id e.what)) (list_all (λ e. not (is_pin_of id e.what || is_hold_of id e.what)) waiting) waits in
    let none : pins_after id (page_of s e e.what before (pages s before)).entry.what ≡ None = ap (λ (f : Entry). pins_after id f.what) (entry_is s e e.what before (pages s before)) ∙ pin_untold id e.what first in
    ap (λ o. unwrap_or (option_or o (first_some (λ p. pins_after id p.entry.what) (pages s before))) None) none ∙ pin_stays s id waiting past rest

-- a pin of a right history takes the latest snapshot
record Took (ps : List Page) (id : CallId) (w : What) : Type 0 where
  now_pins : pins_after id w ≡ Some (latest_number ps)
  names : number_in w ≡ latest_number ps

took_at : (ps : List Page) (id : CallId) (call : Call) (last : Option ℕ) → latest_number ps ≡ last → IsTrue (call.id.0 == id.0) → Took ps id (What.Caller (CallerEvent.Pin call) (pin_reply last))
took_at ps id call None is own = record { now_pins = told (call.id.0 == id.0) None own ∙ ap Some (sym is); names = sym is }
took_at ps id call (Some n) is own = record { now_pins = told (call.id.0 == id.0) (Some n) own ∙ ap Some (sym is); names = sym is }

took : (s : Setting) (e : Entry) (past : List Entry) (ps : List Page) (id : CallId) (w : What) → IsReply s e w past ps → IsTrue (is_pin_of id w) → Took ps id w
took s e past ps id (What.Driver event reply) right own = absurd (cc own)
took s e past ps id (What.Caller (CallerEvent.Pin call) reply) right own = subst (λ r. Took ps id (What.Caller (CallerEvent.Pin call) r)) (sym right) (took_at ps id call (latest_number ps) refl own)
took s e past ps id (What.Caller (CallerEvent.Hold call) reply) right own = absurd (cc own)
took s e past ps id (What.Caller (CallerEvent.Pick call word) reply) right own = absurd (cc own)
took s e past ps id (What.Caller (CallerEvent.Commit other) reply) right own = absurd (cc own)

-- after its pin a call has pinned the latest snapshot, which the pin names
pub record Pins (s : Setting) (id : CallId) (pin : Entry) (past : List Entry) : Type 0 where
  pub now_pinned : pinned (pages s (pin ∷ past)) id ≡ latest_number (pages s past)
  pub names : number_in pin.what ≡ latest_number (pages s past)

pub pins : (s : Setting) (id : CallId) (pin : Entry) (past : List Entry) → Right s (pin ∷ past) → IsTrue (is_pin_of id pin.what) → Pins s id pin past
pins s id pin past right own =
    let at : Took (pages s past) id pin.what = took s pin past (pages s past) id pin.what right.0 own in
    let told_by : pins_after id (page_of s pin pin.what past (pages s past)).entry.what ≡ Some (latest_number (pages s past)) =
    ap (λ (f : Entry). pins_after id f.what) (entry_is s pin pin.what past (pages s past)) ∙ at.now_pins in
    record {
      now_pinned = ap (λ o. unwrap_or (option_or o (first_some (λ p. pins_after id p.entry.what) (pages s past))) None) told_by;
      names = at.names;
    }

-- ---- the pinned snapshot

-- the snapshot of this number stands, and has the clusters that its host names
pub record HasOwn (ps : List Page) (number : ℕ) : Type 0 where
  pub snapshot : Snapshot
  pub is : snapshot_at number ps ≡ Some snapshot
  pub own : (name : Name) → Contains (names_in snapshot) name → HasCluster snapshot name

pub latest_has_own : (ps : List Page) → IsKept ps → (last : Option Snapshot) (number : ℕ) → latest ps ≡ last → option_map (λ x. x.number) last ≡ Some number → HasOwn ps number
latest_has_own ps keeps None number are is = absurd (cc is)
latest_has_own ps keeps (Some x) number are is =
    let same : x.number ≡ number = cc is in
    let hosts : HasHosts (Some x) = subst (λ o. HasHosts o) are keeps.hosts in
    record {
      snapshot = x;
      is = subst (λ n. snapshot_at n ps ≡ Some x) same (latest_found ps x are);
      own = hosts;
    }

-- a snapshot that is published has a number above those before
is_newer : (number n : ℕ) (last : Option Snapshot) (present : Present) (config : Config) (trees : List ClusterTrees) → IsAtMost number last → IsNumber (standing present (Some config) trees) last (Some n) → number < n
is_newer number n None present config trees most is = absurd most
is_newer number n (Some last) present config trees most is = let next : n ≡ last.number + 1 = is.0 in omega (arith, next, most)

newer_with : (present : Present) (config : Option Config) (trees : List ClusterTrees) (reply : Option ℕ) (last : Option Snapshot) (number : ℕ) (x : Snapshot) → IsAtMost number last → IsNumber (standing present config trees) last reply →
    option_and_then (snapshot_of present config trees) reply ≡ Some x → number < x.number
newer_with present config trees None last number x most is made = absurd (cc made)
newer_with present None trees (Some n) last number x most is made = absurd (cc is)
newer_with present (Some config) trees (Some n) last number x most is made =
    let numbered : Snapshot → ℕ = λ x. x.number in
    let same : n ≡ x.number = cc (ap (option_map numbered) made) in
    subst (λ m. number < m) same (is_newer number n last present config trees most is)

newer : (s : Setting) (ps : List Page) (past : List Entry) (actor line : ℕ) (w : What) (number : ℕ) (x : Snapshot) → IsReply s (entry_of actor line w) w past ps → IsAtMost number (latest ps) →
    (page_of s (entry_of actor line w) w past ps).snapshot ≡ Some x → number < x.number
newer s ps past actor line (What.Driver event reply) number x right most made =
    newer_with (present_after past event) (config_at s event reply past ps) (trees_after (present_after past event) (trees_now ps) (config_at s event reply past ps)) reply.snapshot (latest ps) number x most right.number_is made
newer s ps past actor line (What.Caller event reply) number x right most made = absurd (cc made)

not_this : (b : Bool) (x : Snapshot) (old : Option Snapshot) → b ≡ false → option_or (if b then Some x else None) old ≡ old
not_this true x old is = absurd (cc is)
not_this false x old is = refl

passed_over : (o old : Option Snapshot) (number : ℕ) → ((x : Snapshot) → o ≡ Some x → number < x.number) → option_or (option_and_then (λ x. if x.number == number then Some x else None) o) old ≡ old
passed_over None old number above = refl
passed_over (Some x) old number above =
    let less : number < x.number = above x refl in
    not_this (x.number == number) x old (ne_eqb x.number number (λ e. absurd (omega (arith, e, less))))

-- the snapshot of a number stays that of the number
pub snapshot_stays : (s : Setting) (later past : List Entry) (number : ℕ) (x : Snapshot) → Right s (later ++ past) → snapshot_at number (pages s past) ≡ Some x → snapshot_at number (pages s (later ++ past)) ≡ Some x
snapshot_stays s [] past number x right is = is
snapshot_stays s (e ∷ later) past number x right is =
    let before : List Entry = later ++ past in
    let older : snapshot_at number (pages s before) ≡ Some x = snapshot_stays s later past number x right.1 is in
    let most : IsAtMost number (latest (pages s before)) = (kept s before right.1).numbers number x older in
    passed_over (page_of s e e.what before (pages s before)).snapshot (snapshot_at number (pages s before)) number (λ y made. newer s (pages s before) before e.actor e.line e.what number y right.0 most made) ∙ older

-- ---- a hold

routed_named : (front : Result Front Reason) (answer : RouteAnswer) (name : Name) → routed_to front answer ≡ Some name → Contains (names_of_front front) name
routed_named (Ok front) answer name is = answer_named front answer name is
routed_named (Err reason) answer name is = absurd (cc is)

-- a hold has found a cluster, which the host of the pinned snapshot names, and the call holds it
pub record Found (ps : List Page) (id : CallId) (w : What) (name : Name) : Type 0 where
  pub number : ℕ
  pub pin : pinned ps id ≡ Some number
  pub names : number_in w ≡ Some number
  pub snapshot : Snapshot
  pub is : snapshot_at number ps ≡ Some snapshot
  pub own : Contains (names_in snapshot) name
  pub now_holds : holds_after id w ps ≡ Some (Some name)

found_routed : (ps : List Page) (id : CallId) (call : Call) (name : Name) (number : ℕ) (answer : RouteAnswer) (x : Snapshot) → IsTrue (call.id.0 == id.0) → pinned ps id ≡ Some number → snapshot_at number ps ≡ Some x →
    found_in number answer ps ≡ Some name → Found ps id (What.Caller (CallerEvent.Hold call) (CallerReply.Routed number answer)) name
found_routed ps id call name number answer x own pin is found =
    let routed : routed_to x.config.front answer ≡ Some name = subst (λ o. option_and_then (λ z. routed_to z.config.front answer) o ≡ Some name) is found in
    record {
      number = number;
      pin = pin;
      names = refl;
      snapshot = x;
      is = is;
      own = routed_named x.config.front answer name routed;
      now_holds = told (call.id.0 == id.0) (found_in number answer ps) own ∙ ap Some found;
    }

found_pinned : (ps : List Page) (id : CallId) (call : Call) (name : Name) (number : ℕ) (o : Option Snapshot) → IsTrue (call.id.0 == id.0) → pinned ps id ≡ Some number → snapshot_at number ps ≡ o →
    cluster_in (What.Caller (CallerEvent.Hold call) (option_map_or (λ x. CallerReply.Routed number (route x.config.front call)) o CallerReply.NoSnapshot)) ps ≡ Some name →
    Found ps id (What.Caller (CallerEvent.Hold call) (option_map_or (λ x. CallerReply.Routed number (route x.config.front call)) o CallerReply.NoSnapshot)) name
found_pinned ps id call name number None own pin is found = absurd (cc found)
found_pinned ps id call name number (Some x) own pin is found = found_routed ps id call name number (route x.config.front call) x own pin is found

found_at : (ps : List Page) (id : CallId) (call : Call) (name : Name) (pin : Option ℕ) → IsTrue (call.id.0 == id.0) → pinned ps id ≡ pin →
    cluster_in (What.Caller (CallerEvent.Hold call) (hold_reply ps call pin)) ps ≡ Some name → Found ps id (What.Caller (CallerEvent.Hold call) (hold_reply ps call pin)) name
found_at ps id call name None own is found = absurd (cc found)
found_at ps id call name (Some number) own is found = found_pinned ps id call name number (snapshot_at number ps) own is refl found

found_by : (ps : List Page) (id : CallId) (call : Call) (name : Name) (reply : CallerReply) → IsTrue (call.id.0 == id.0) → reply ≡ hold_reply ps call (pinned ps call.id) →
    cluster_in (What.Caller (CallerEvent.Hold call) reply) ps ≡ Some name → Found ps id (What.Caller (CallerEvent.Hold call) reply) name
found_by ps id call name reply own right found =
    let same : call.id ≡ id = same_id call.id id (eqb-true call.id.0 id.0 own) in
    let replied : reply ≡ hold_reply ps call (pinned ps id) = right ∙ ap (λ i. hold_reply ps call (pinned ps i)) same in
    subst (λ r. Found ps id (What.Caller (CallerEvent.Hold call) r) name) (sym replied)
    (found_at ps id call name (pinned ps id) own refl (subst (λ r. cluster_in (What.Caller (CallerEvent.Hold call) r) ps ≡ Some name) replied found))

pub has_found : (s : Setting) (e : Entry) (past : List Entry) (ps : List Page) (id : CallId) (w : What) (name : Name) → IsReply s e w past ps → IsTrue (is_hold_of id w) → cluster_in w ps ≡ Some name → Found ps id w name
has_found s e past ps id (What.Driver event reply) name right own found = absurd (cc own)
has_found s e past ps id (What.Caller (CallerEvent.Pin call) reply) name right own found = absurd (cc own)
has_found s e past ps id (What.Caller (CallerEvent.Hold call) reply) name right own found = found_by ps id call name reply own right found
has_found s e past ps id (What.Caller (CallerEvent.Pick call word) reply) name right own found = absurd (cc own)
has_found s e past ps id (What.Caller (CallerEvent.Commit other) reply) name right own found = absurd (cc own)

-- ---- what a call holds

pub held_after : (s : Setting) (id : CallId) (hold : Entry) (past : List Entry) (name : Name) → holds_after id hold.what (pages s past) ≡ Some (Some name) → held (pages s (hold ∷ past)) id ≡ Some name
held_after s id hold past name is =
    let told_by : holds_after id (page_of s hold hold.what past (pages s past)).entry.what (pages s past) ≡ Some (Some name) =
    ap (λ (f : Entry). holds_after id f.what (pages s past)) (entry_is s hold hold.what past (pages s past)) ∙ is in
    ap (λ o. unwrap_or o (held (pages s past) id)) told_by

hold_untold : (id : CallId) (w : What) (ps : List Page) → IsTrue (not (is_hold_of id w || is_commit_of id w)) → holds_after id w ps ≡ None
hold_untold id (What.Driver event reply) ps is = refl
hold_untold id (What.Caller (CallerEvent.Pin call) reply) ps is = refl
hold_untold id (What.Caller (CallerEvent.Hold call) (CallerReply.Pinned number)) ps is = refl
hold_untold id (What.Caller (CallerEvent.Hold call) CallerReply.NoSnapshot) ps is = refl
hold_untold id (What.Caller (CallerEvent.Hold call) (CallerReply.Routed number answer)) ps is = untold_first (call.id.0 == id.0) (found_in number answer ps) is
hold_untold id (What.Caller (CallerEvent.Hold call) (CallerReply.Endpoint number child locality place)) ps is = refl
hold_untold id (What.Caller (CallerEvent.Hold call) (CallerReply.Queue number)) ps is = refl
hold_untold id (What.Caller (CallerEvent.Hold call) (CallerReply.Fail number reason)) ps is = refl
hold_untold id (What.Caller (CallerEvent.Hold call) (CallerReply.Drop number rule)) ps is = refl
hold_untold id (What.Caller (CallerEvent.Hold call) CallerReply.NotHeld) ps is = refl
hold_untold id (What.Caller (CallerEvent.Hold call) CallerReply.Released) ps is = refl
hold_untold id (What.Caller (CallerEvent.Pick call word) reply) ps is = refl
hold_untold id (What.Caller (CallerEvent.Commit other) reply) ps is = untold_second (other.0 == id.0) None is

-- up to its commit, what a call holds stays
pub held_stays : (s : Setting) (id : CallId) (holding middle past : List Entry) → IsHolding id holding → held (pages s ((holding ++ middle) ++ past)) id ≡ held (pages s (middle ++ past)) id
held_stays s id [] middle past holds = refl
held_stays s id (e ∷ holding) middle past holds =
    let before : List Entry = (holding ++ middle) ++ past in
    let (first, rest) = both (not (is_hold_of id e.what || is_commit_of id e.what)) (list_all (λ e. not (is_hold_of id e.what || is_commit_of id e.what)) holding) holds in
    let none : holds_after id (page_of s e e.what before (pages s before)).entry.what (pages s before) ≡ None =
    ap (λ (f : Entry). holds_after id f.what (pages s before)) (entry_is s e e.what before (pages s before)) ∙ hold_untold id e.what (pages s before) first in
    ap (λ o. unwrap_or o (held (pages s before) id)) none ∙ held_stays s id holding middle past rest
