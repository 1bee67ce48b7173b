-- Proofs of the laws of calls' ways.
use Rattle.std.proofs.Common.{◌≡◌, ◌⊎◌, inl, inr, ℕ, ◌==◌, Bool, true, false, ◌&&◌, ◌||◌, not, Option, Some, None, List, [], ◌∷◌, ◌++◌, refl, sym, ap, ◌∙◌, subst, IsTrue, if◌then◌else◌, unwrap_or}
use Rattle.std.specs.Prelude.{Contains, IfSome}
use Rattle.std.specs.List.{list_all}
use Rattle.std.specs.Option.{option_or}
use Rattle.xc_base.specs.declared.names.CallId.{CallId}
use Rattle.xds_history.specs.cluster_tree.declared.snapshot.Snapshot.{Snapshot}
use Rattle.call_journal.specs.declared.event.CallerEvent.{CallerEvent}
use Rattle.call_journal.specs.declared.reply.CallerReply.{CallerReply}
use Rattle.call_journal.specs.declared.entry.What.{What}
use Rattle.call_journal.specs.declared.entry.Entry.{Entry}
use Rattle.xds_history.specs.config_assembly.Orders.{Name}
use Rattle.xds_history.specs.Setting.{Setting}
use Rattle.xds_history.specs.declared.page.Page.{Page}
use Rattle.xds_history.specs.Page.{latest, latest_number}
use Rattle.xds_history.specs.Words.{first_some}
use Rattle.xds_history.specs.References.{snapshot_at, held, pinned, pins_after, names_in}
use Rattle.xds_history.specs.Pages.{pages, page_of}
use Rattle.xds_history.specs.Right.{Right}
use Rattle.xds_history.specs.HistoryLaws.{HasCluster, published}
use Rattle.xds_history.proofs.KeepProofs.{kept, right_past, published_has_held, published_has_pinned}
use Rattle.call_clusters.specs.CallCourses.{is_pin_of, is_hold_of, is_commit_of, cluster_in, IsWaiting, IsHolding, Course, before_hold, after_pin, AllHave, HasThroughout, ClustersKept, HasPin, HoldsHavePins}
use Rattle.call_clusters.proofs.CourseLemmas.{Found, HasOwn, Pins, both, entry_is, has_found, held_after, held_stays, latest_has_own, pin_stays, pins, right_middle, snapshot_stays}

-- ---- what is published on the way

if_some : {X : Type 0} (o : Option X) (P : X → Type 0) → ((x : X) → o ≡ Some x → P x) → IfSome o P
if_some None P holds = tt
if_some (Some x) P holds = holds x refl

-- while the call waits
waiting_have : (s : Setting) (id : CallId) (number : ℕ) (x : Snapshot) (name : Name) (waiting past : List Entry) → Right s (waiting ++ past) → IsWaiting id waiting → pinned (pages s past) id ≡ Some number → snapshot_at number (pages s past) ≡ Some x → Contains (names_in x) name →
    AllHave s waiting past name
waiting_have s id number x name [] past right waits pin is own = tt
waiting_have s id number x name (e ∷ waiting) past right waits pin is own =
    let before : List Entry = waiting ++ past in
    let (first, rest) = both (not (is_pin_of id e.what || is_hold_of id e.what)) (list_all (λ e. not (is_pin_of id e.what || is_hold_of id e.what)) waiting) waits in (
      if_some (published s e before) (λ y. HasCluster y name) (λ y made.
          let (z, at, keeps) = published_has_pinned s [] e before right y made id number (pin_stays s id waiting past rest ∙ pin) in
          let same : x ≡ z = cc (snapshot_stays s waiting past number x right.1 is, at) in
          keeps name (subst (λ (v : Snapshot). Contains (names_in v) name) same own)),
      waiting_have s id number x name waiting past right.1 rest pin is own,
    )

-- a hold publishes nothing
hold_has : (s : Setting) (id : CallId) (e : Entry) (w : What) (past : List Entry) (ps : List Page) (name : Name) → IsTrue (is_hold_of id w) → IfSome (page_of s e w past ps).snapshot (λ y. HasCluster y name)
hold_has s id e (What.Driver event reply) past ps name own = absurd (cc own)
hold_has s id e (What.Caller event reply) past ps name own = tt

-- while it holds its cluster
holding_have : (s : Setting) (id : CallId) (name : Name) (holding middle past : List Entry) → Right s ((holding ++ middle) ++ past) → IsHolding id holding → held (pages s (middle ++ past)) id ≡ Some name → AllHave s middle past name →
    AllHave s (holding ++ middle) past name
holding_have s id name [] middle past right holds is have = have
holding_have s id name (e ∷ holding) middle past right holds is have =
    let before : List Entry = (holding ++ middle) ++ past in
    let (first, rest) = both (not (is_hold_of id e.what || is_commit_of id e.what)) (list_all (λ e. not (is_hold_of id e.what || is_commit_of id e.what)) holding) holds in (
      if_some (published s e before) (λ y. HasCluster y name) (λ y made. published_has_held s [] e before right y made id name (held_stays s id holding middle past rest ∙ is)),
      holding_have s id name holding middle past right.1 rest is have,
    )

-- ---- the whole way

throughout : (s : Setting) (id : CallId) (course : Course) (name : Name) → Right s (after_pin course ++ course.pin ∷ course.past) → IsTrue (is_pin_of id course.pin.what) → IsWaiting id course.waiting → IsTrue (is_hold_of id course.hold.what) → IsHolding id course.holding →
    cluster_in course.hold.what (pages s (before_hold course)) ≡ Some name → HasThroughout s course name
throughout s id course name right is_pin waits is_hold holds found =
    let began : List Entry = course.pin ∷ course.past in
    let before : List Entry = before_hold course in
    let at_hold : Right s (course.hold ∷ before) = right_middle s course.holding (course.hold ∷ course.waiting) began right in
    let at_pin : Right s began = right_past s course.waiting began at_hold.1 in
    let taken : Pins s id course.pin course.past = pins s id course.pin course.past at_pin is_pin in
    let has : Found (pages s before) id course.hold.what name = has_found s course.hold before (pages s before) id course.hold.what name at_hold.0 is_hold found in
    let pin_is : pinned (pages s began) id ≡ Some has.number = sym (pin_stays s id course.waiting began waits) ∙ has.pin in
    let last : latest_number (pages s course.past) ≡ Some has.number = sym taken.now_pinned ∙ pin_is in
    let stands : HasOwn (pages s course.past) has.number = latest_has_own (pages s course.past) (kept s course.past at_pin.1) (latest (pages s course.past)) has.number refl last in
    let x : Snapshot = stands.snapshot in
    let x_began : snapshot_at has.number (pages s began) ≡ Some x = snapshot_stays s (course.pin ∷ []) course.past has.number x at_pin stands.is in
    let same : has.snapshot ≡ x = cc (has.is, snapshot_stays s course.waiting began has.number x at_hold.1 x_began) in
    let own : Contains (names_in x) name = subst (λ (v : Snapshot). Contains (names_in v) name) same has.own in
    record {
      number = has.number;
      pin_names = taken.names ∙ last;
      hold_names = has.names;
      snapshot = x;
      snapshot_is = stands.is;
      pinned_has = stands.own name own;
      later_have = holding_have s id name course.holding (course.hold ∷ course.waiting) began right holds
          (held_after s id course.hold before name has.now_holds)
          (hold_has s id course.hold course.hold.what before (pages s before) name is_hold, waiting_have s id has.number x name course.waiting began at_hold.1 waits pin_is x_began own);
    }

pub clusters_kept : ClustersKept
clusters_kept s history right = λ id course at name found.
    let all : Right s (at.later ++ (after_pin course ++ course.pin ∷ course.past)) = subst (λ (h : List Entry). Right s h) at.is right in
    throughout s id course name (right_past s at.later (after_pin course ++ course.pin ∷ course.past) all) at.pins at.waits at.takes_hold at.holds found

-- ---- a hold's pin

-- an entry is the pin, or the pin stands before it
abbrev IsPinOrLater : CallId → What → Option (Option ℕ) → ℕ → Type 0
IsPinOrLater id w older number = IsTrue (is_pin_of id w) ⊎ (IsTrue (not (is_pin_of id w || is_hold_of id w)) × (unwrap_or older None ≡ Some number))

at_pin : (b : Bool) (new : Option ℕ) (older : Option (Option ℕ)) (number : ℕ) → unwrap_or (option_or (if b then Some new else None) older) None ≡ Some number → IsTrue b ⊎ (IsTrue (not (b || false)) × (unwrap_or older None ≡ Some number))
at_pin true new older number is = inl refl
at_pin false new older number is = inr (refl, is)

at_hold : (b : Bool) (older : Option (Option ℕ)) (number : ℕ) → unwrap_or (option_or (if b then Some None else None) older) None ≡ Some number → IsTrue false ⊎ (IsTrue (not (false || b)) × (unwrap_or older None ≡ Some number))
at_hold true older number is = absurd (cc is)
at_hold false older number is = inr (refl, is)

pin_or_later : (id : CallId) (w : What) (older : Option (Option ℕ)) (number : ℕ) → unwrap_or (option_or (pins_after id w) older) None ≡ Some number → IsPinOrLater id w older number
pin_or_later id (What.Driver event reply) older n is = inr (refl, is)
pin_or_later id (What.Caller (CallerEvent.Pin call) (CallerReply.Pinned number)) older n is = at_pin (call.id.0 == id.0) (Some number) older n is
pin_or_later id (What.Caller (CallerEvent.Pin call) CallerReply.NoSnapshot) older n is = at_pin (call.id.0 == id.0) None older n is
pin_or_later id (What.Caller (CallerEvent.Pin call) (CallerReply.Routed number answer)) older n is = at_pin (call.id.0 == id.0) None older n is
pin_or_later id (What.Caller (CallerEvent.Pin call) (CallerReply.Endpoint number child locality place)) older n is = at_pin (call.id.0 == id.0) None older n is
pin_or_later id (What.Caller (CallerEvent.Pin call) (CallerReply.Queue number)) older n is = at_pin (call.id.0 == id.0) None older n is
pin_or_later id (What.Caller (CallerEvent.Pin call) (CallerReply.Fail number reason)) older n is = at_pin (call.id.0 == id.0) None older n is
pin_or_later id (What.Caller (CallerEvent.Pin call) (CallerReply.Drop number rule)) older n is = at_pin (call.id.0 == id.0) None older n is
pin_or_later id (What.Caller (CallerEvent.Pin call) CallerReply.NotHeld) older n is = at_pin (call.id.0 == id.0) None older n is
pin_or_later id (What.Caller (CallerEvent.Pin call) CallerReply.Released) older n is = at_pin (call.id.0 == id.0) None older n is
pin_or_later id (What.Caller (CallerEvent.Hold call) reply) older n is = at_hold (call.id.0 == id.0) older n is
pin_or_later id (What.Caller (CallerEvent.Pick call word) reply) older n is = inr (refl, is)
pin_or_later id (What.Caller (CallerEvent.Commit other) reply) older n is = inr (refl, is)

all_of : (a b : Bool) → IsTrue a → IsTrue b → IsTrue (a && b)
all_of true b one rest = rest
all_of false b one rest = absurd (cc one)

has_pin : (s : Setting) (id : CallId) (before : List Entry) (number : ℕ) → pinned (pages s before) id ≡ Some number → HasPin id before
has_pin s id [] number is = absurd (cc is)
has_pin s id (e ∷ past) number is =
    let older : Option (Option ℕ) = first_some (λ p. pins_after id p.entry.what) (pages s past) in
    let told : unwrap_or (option_or (pins_after id e.what) older) None ≡ Some number =
    subst (λ (f : Entry). unwrap_or (option_or (pins_after id f.what) older) None ≡ Some number) (entry_is s e e.what past (pages s past)) is in
    elim (pin_or_later id e.what older number told) [
      | inl own ↦ record { past = past; pin = e; waiting = []; is = refl; pins = own; waits = refl }
      | inr (quiet, pin) ↦ let at : HasPin id past = has_pin s id past number pin in record {
        past = at.past;
        pin = at.pin;
        waiting = e ∷ at.waiting;
        is = ap (λ es. e ∷ es) at.is;
        pins = at.pins;
        waits = all_of (not (is_pin_of id e.what || is_hold_of id e.what)) (list_all (λ e. not (is_pin_of id e.what || is_hold_of id e.what)) at.waiting) quiet at.waits;
      }
    ]

pub holds_have_pins : HoldsHavePins
holds_have_pins s history right = λ later hold before is id own name found.
    let at : Right s (hold ∷ before) = right_past s later (hold ∷ before) (subst (λ (h : List Entry). Right s h) is right) in
    let has : Found (pages s before) id hold.what name = has_found s hold before (pages s before) id hold.what name at.0 own found in
    has_pin s id before has.number has.pin
