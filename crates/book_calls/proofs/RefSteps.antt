-- Pins and holds, one entry on.
use Rattle.std.proofs.Common.{◌≡◌, ℕ, ◌==◌, Bool, true, false, Option, Some, None, List, [], ◌∷◌, refl, sym, ap, ◌∙◌, if◌then◌else◌, eq-eqb, eqb-true, option_map, unwrap_or}
use Rattle.std.specs.Option.{option_map_or, option_or}
use Rattle.std.specs.Map.{lookup}
use Rattle.std.specs.Cmp.{unsigned_ties}
use Rattle.xc_base.specs.declared.names.CallId.{CallId}
use Rattle.xc_base.specs.declared.call.Call.{Call}
use Rattle.route_match.specs.declared.answer.RouteAnswer.{RouteAnswer}
use Rattle.cluster_tree.specs.declared.snapshot.Snapshot.{Snapshot}
use Rattle.cluster_refs.specs.declared.pins.Pin.{Pin}
use Rattle.cluster_refs.specs.CallReferences.{References, is_call, pin_of, SetsPin, SetsHold}
use Rattle.call_journal.specs.declared.event.CallerEvent.{CallerEvent}
use Rattle.call_journal.specs.declared.reply.CallerReply.{CallerReply}
use Rattle.call_journal.specs.declared.entry.Entry.{Entry}
use Rattle.xds_history.specs.config_assembly.Orders.{Name}
use Rattle.xds_history.specs.Words.{first_some}
use Rattle.xds_history.specs.declared.page.Page.{Page}
use Rattle.xds_history.specs.Page.{latest}
use Rattle.xds_history.specs.References.{snapshot_at, found_in, pinned, pins_after, held, names_in}
use Rattle.xds_history.specs.Pages.{caller_page, called}
use Rattle.xds_history.specs.Right.{pin_reply}
use Rattle.book_calls.specs.RefsKept.{list_at, pin_in, AreRefs, AreRefsAt, at_call, SetsBoth}
use Rattle.book_calls.proofs.SnapshotPlaces.{latest_found}

-- ---- calls

pub is_same : (a b : CallId) → is_call a b ≡ (a.0 == b.0)
is_same a b = sym (unsigned_ties a.0 b.0)

pub is_itself : (id : CallId) → is_call id id ≡ true
is_itself id = is_same id id ∙ eq-eqb id.0 id.0 refl

pub same_id : (a b : CallId) → a.0 ≡ b.0 → a ≡ b
same_id a b is = let make : ℕ → CallId = λ n. record { 0 = n } in ap make is

-- ---- the step words, one after the other

over : {X : Type 0} (b : Bool) (x y o : X) → (if b then y else (if b then x else o)) ≡ (if b then y else o)
over true x y o = refl
over false x y o = refl

pub pin_over : (a b c : References) (id : CallId) (x y : Option Pin) → SetsPin a b id x → SetsPin b c id y → SetsPin a c id y
pin_over a b c id x y one two = record {
  pins = λ other. two.pins other ∙ ap (λ o. if is_call id other then y else o) (one.pins other) ∙ over (is_call id other) x y (pin_of a other);
  holds = two.holds ∙ one.holds;
}

ended : {X : Type 0} (b : Bool) (o : Option X) → b ≡ true → (if b then None else o) ≡ None
ended true o is = refl
ended false o is = absurd (cc is)

from_ended : {X : Type 0} (b : Bool) (o : Option X) (x : X) → (if b then None else o) ≡ Some x → o ≡ Some x
from_ended true o x is = absurd (cc is)
from_ended false o x is = is

-- ---- pins and holds by functions

pub set_pin : (pin : CallId → Option Pin) (hold : CallId → Option Name) (old new : References) (id : CallId) (x : Option Pin) → AreRefs pin hold old → SetsPin old new id x → AreRefs (at_call id x pin) hold new
set_pin pin hold old new id x kept set = record {
  pins = λ other. set.pins other ∙ ap (λ o. if is_call id other then x else o) (kept.pins other) ∙ ap (λ b. if b then x else pin other) (is_same id other);
  holds = λ other. ap (λ hs. lookup (is_call other) hs) set.holds ∙ kept.holds other;
}

pub set_hold : (pin : CallId → Option Pin) (hold : CallId → Option Name) (old new : References) (id : CallId) (x : Option Name) → AreRefs pin hold old → SetsHold old new id x → AreRefs pin (at_call id x hold) new
set_hold pin hold old new id x kept set = record {
  pins = λ other. ap (λ hs. lookup (is_call other) hs) set.pins ∙ kept.pins other;
  holds = λ other. set.holds other ∙ ap (λ o. if is_call id other then x else o) (kept.holds other) ∙ ap (λ b. if b then x else hold other) (is_same id other);
}

pub refs_as : (pin pin' : CallId → Option Pin) (hold hold' : CallId → Option Name) (refs : References) → AreRefs pin hold refs → ((id : CallId) → pin id ≡ pin' id) → ((id : CallId) → hold id ≡ hold' id) → AreRefs pin' hold' refs
refs_as pin pin' hold hold' refs kept pins holds = record { pins = λ id. kept.pins id ∙ pins id; holds = λ id. kept.holds id ∙ holds id }

none_here : {X : Type 0} (id : CallId) (f : CallId → Option X) (other : CallId) (b : Bool) → (id.0 == other.0) ≡ b → f id ≡ None → (if b then None else f other) ≡ f other
none_here id f other true test none = sym (ap f (sym (same_id id other (eqb-true id.0 other.0 test))) ∙ none)
none_here id f other false test none = refl

-- ending what isn't there changes nothing
pub still_at : {X : Type 0} (id : CallId) (f : CallId → Option X) → f id ≡ None → (other : CallId) → at_call id None f other ≡ f other
still_at id f none other = none_here id f other (id.0 == other.0) refl none

pub pin_still : (ps : List Page) (old new : References) (id : CallId) → pinned ps id ≡ None → AreRefsAt ps old → SetsPin old new id None → AreRefsAt ps new
pin_still ps old new id none kept set =
    refs_as (at_call id None (pin_in ps)) (pin_in ps) (held ps) (held ps) new (set_pin (pin_in ps) (held ps) old new id None kept set)
    (still_at id (pin_in ps) (ap (option_map (list_at ps)) none)) (λ other. refl)

pub hold_still : (ps : List Page) (old new : References) (id : CallId) → held ps id ≡ None → AreRefsAt ps old → SetsHold old new id None → AreRefsAt ps new
hold_still ps old new id none kept set =
    refs_as (pin_in ps) (pin_in ps) (at_call id None (held ps)) (held ps) new (set_hold (pin_in ps) (held ps) old new id None kept set)
    (λ other. refl) (still_at id (held ps) none)

-- ---- what a caller's entry tells

told_number : (b : Bool) (new : Option ℕ) (older : Option (Option ℕ)) → (if b then new else unwrap_or older None) ≡ unwrap_or (option_or (if b then Some new else None) older) None
told_number true new older = refl
told_number false new older = refl

told_hold : (b : Bool) (new older : Option Name) → (if b then new else older) ≡ unwrap_or (if b then Some new else None) older
told_hold true new older = refl
told_hold false new older = refl

mapped : {X Y : Type 0} (f : X → Y) (b : Bool) (x o : Option X) → (if b then option_map f x else option_map f o) ≡ option_map f (if b then x else o)
mapped f true x o = refl
mapped f false x o = refl

pub pinned_after_pin : (ps : List Page) (past : List Entry) (actor line : ℕ) (call : Call) (number : Option ℕ) (id : CallId) →
    at_call call.id number (pinned ps) id ≡ pinned (caller_page (called actor line (CallerEvent.Pin call) (pin_reply number)) past ps ∷ ps) id
pinned_after_pin ps past actor line call None id = told_number (call.id.0 == id.0) None (first_some (λ p. pins_after id p.entry.what) ps)
pinned_after_pin ps past actor line call (Some n) id = told_number (call.id.0 == id.0) (Some n) (first_some (λ p. pins_after id p.entry.what) ps)

pub pinned_after_hold : (ps : List Page) (past : List Entry) (actor line : ℕ) (call : Call) (reply : CallerReply) (id : CallId) →
    at_call call.id None (pinned ps) id ≡ pinned (caller_page (called actor line (CallerEvent.Hold call) reply) past ps ∷ ps) id
pinned_after_hold ps past actor line call reply id = told_number (call.id.0 == id.0) None (first_some (λ p. pins_after id p.entry.what) ps)

pub held_after_hold : (ps : List Page) (past : List Entry) (actor line : ℕ) (call : Call) (number : ℕ) (answer : RouteAnswer) (id : CallId) →
    at_call call.id (found_in number answer ps) (held ps) id ≡ held (caller_page (called actor line (CallerEvent.Hold call) (CallerReply.Routed number answer)) past ps ∷ ps) id
held_after_hold ps past actor line call number answer id = told_hold (call.id.0 == id.0) (found_in number answer ps) (held ps id)

pub held_after_commit : (ps : List Page) (past : List Entry) (actor line : ℕ) (own : CallId) (reply : CallerReply) (id : CallId) →
    at_call own None (held ps) id ≡ held (caller_page (called actor line (CallerEvent.Commit own) reply) past ps ∷ ps) id
held_after_commit ps past actor line own reply id = told_hold (own.0 == id.0) None (held ps id)

-- lists of the numbers, since no caller's entry publishes
pin_told : (ps : List Page) (p : Page) (call : CallId) (number : Option ℕ) (id : CallId) → ((n : ℕ) → list_at (p ∷ ps) n ≡ list_at ps n) → at_call call number (pinned ps) id ≡ pinned (p ∷ ps) id →
    at_call call (option_map (list_at ps) number) (pin_in ps) id ≡ pin_in (p ∷ ps) id
pin_told ps p call number id same is =
    mapped (list_at ps) (call.0 == id.0) number (pinned ps id) ∙ ap (option_map (list_at ps)) is ∙ alike (pinned (p ∷ ps) id)
  where
    alike : (o : Option ℕ) → option_map (list_at ps) o ≡ option_map (list_at (p ∷ ps)) o
    alike None = refl
    alike (Some n) = ap (λ (pin : Pin). Some pin) (sym (same n))

-- ---- one entry on

latest_list : (ps : List Page) (last : Option Snapshot) (number : ℕ) (names : List Name) → latest ps ≡ last → option_map (λ x. x.number) last ≡ Some number → option_map names_in last ≡ Some names →
    list_at ps number ≡ record { number = number; names = names }
latest_list ps None number names is numbered named = absurd (cc numbered)
latest_list ps (Some x) number names is numbered named =
    let same : x.number ≡ number = cc numbered in
    let own : names_in x ≡ names = cc named in
    let at : snapshot_at number ps ≡ Some x = ap (λ n. snapshot_at n ps) (sym same) ∙ latest_found ps x is in
    ap (λ (ns : List Name). list_of number ns) (ap (λ o. option_map_or names_in o []) at ∙ own)
  where
    list_of : ℕ → List Name → Pin
    list_of n ns = record { number = n; names = ns }

-- a pin of the latest snapshot, by its number and the clusters that its host names
pub refs_pinned : (ps : List Page) (past : List Entry) (actor line : ℕ) (call : Call) (x : Snapshot) (old new : References) → latest ps ≡ Some x → AreRefsAt ps old → SetsPin old new call.id (Some (record { number = x.number; names = names_in x })) →
    AreRefsAt (caller_page (called actor line (CallerEvent.Pin call) (CallerReply.Pinned x.number)) past ps ∷ ps) new
refs_pinned ps past actor line call x old new is kept set =
    refs_as (at_call call.id (Some (record { number = x.number; names = names_in x })) (pin_in ps))
    (pin_in (caller_page (called actor line (CallerEvent.Pin call) (CallerReply.Pinned x.number)) past ps ∷ ps)) (held ps)
    (held (caller_page (called actor line (CallerEvent.Pin call) (CallerReply.Pinned x.number)) past ps ∷ ps)) new
    (set_pin (pin_in ps) (held ps) old new call.id (Some (record { number = x.number; names = names_in x })) kept set)
    (λ id. ap (λ (pin : Pin). at_call call.id (Some pin) (pin_in ps) id) (sym (latest_list ps (Some x) x.number (names_in x) is refl refl))
    ∙ pin_told ps (caller_page (called actor line (CallerEvent.Pin call) (CallerReply.Pinned x.number)) past ps) call.id (Some x.number) id (λ n. refl) (pinned_after_pin ps past actor line call (Some x.number) id))
    (λ id. refl)

-- a pin before any snapshot
pub refs_unpinned : (ps : List Page) (past : List Entry) (actor line : ℕ) (call : Call) (refs : References) → pinned ps call.id ≡ None → AreRefsAt ps refs →
    AreRefsAt (caller_page (called actor line (CallerEvent.Pin call) CallerReply.NoSnapshot) past ps ∷ ps) refs
refs_unpinned ps past actor line call refs none kept =
    refs_as (pin_in ps) (pin_in (caller_page (called actor line (CallerEvent.Pin call) CallerReply.NoSnapshot) past ps ∷ ps)) (held ps)
    (held (caller_page (called actor line (CallerEvent.Pin call) CallerReply.NoSnapshot) past ps ∷ ps)) refs kept
    (λ id. sym (still_at call.id (pin_in ps) (ap (option_map (list_at ps)) none) id)
    ∙ pin_told ps (caller_page (called actor line (CallerEvent.Pin call) CallerReply.NoSnapshot) past ps) call.id None id (λ n. refl) (pinned_after_pin ps past actor line call None id))
    (λ id. refl)

-- a hold that finds a route
pub refs_held : (ps : List Page) (past : List Entry) (actor line : ℕ) (call : Call) (number : ℕ) (answer : RouteAnswer) (old new : References) → AreRefsAt ps old → SetsBoth old new call.id (found_in number answer ps) →
    AreRefsAt (caller_page (called actor line (CallerEvent.Hold call) (CallerReply.Routed number answer)) past ps ∷ ps) new
refs_held ps past actor line call number answer old new kept set =
    refs_as (at_call call.id None (pin_in ps)) (pin_in (caller_page (called actor line (CallerEvent.Hold call) (CallerReply.Routed number answer)) past ps ∷ ps))
    (at_call call.id (found_in number answer ps) (held ps)) (held (caller_page (called actor line (CallerEvent.Hold call) (CallerReply.Routed number answer)) past ps ∷ ps)) new
    (set_pin (pin_in ps) (at_call call.id (found_in number answer ps) (held ps)) set.between new call.id None
    (set_hold (pin_in ps) (held ps) old set.between call.id (found_in number answer ps) kept set.holds) set.unpins)
    (λ id. pin_told ps (caller_page (called actor line (CallerEvent.Hold call) (CallerReply.Routed number answer)) past ps) call.id None id (λ n. refl) (pinned_after_hold ps past actor line call (CallerReply.Routed number answer) id))
    (held_after_hold ps past actor line call number answer)

-- a hold without a pin
pub refs_unheld : (ps : List Page) (past : List Entry) (actor line : ℕ) (call : Call) (refs : References) → pinned ps call.id ≡ None → AreRefsAt ps refs →
    AreRefsAt (caller_page (called actor line (CallerEvent.Hold call) CallerReply.NoSnapshot) past ps ∷ ps) refs
refs_unheld ps past actor line call refs none kept =
    refs_as (pin_in ps) (pin_in (caller_page (called actor line (CallerEvent.Hold call) CallerReply.NoSnapshot) past ps ∷ ps)) (held ps)
    (held (caller_page (called actor line (CallerEvent.Hold call) CallerReply.NoSnapshot) past ps ∷ ps)) refs kept
    (λ id. sym (still_at call.id (pin_in ps) (ap (option_map (list_at ps)) none) id)
    ∙ pin_told ps (caller_page (called actor line (CallerEvent.Hold call) CallerReply.NoSnapshot) past ps) call.id None id (λ n. refl) (pinned_after_hold ps past actor line call CallerReply.NoSnapshot id))
    (λ id. refl)

pub refs_released : (ps : List Page) (past : List Entry) (actor line : ℕ) (own : CallId) (reply : CallerReply) (old new : References) → AreRefsAt ps old → SetsHold old new own None →
    AreRefsAt (caller_page (called actor line (CallerEvent.Commit own) reply) past ps ∷ ps) new
refs_released ps past actor line own reply old new kept set =
    refs_as (pin_in ps) (pin_in (caller_page (called actor line (CallerEvent.Commit own) reply) past ps ∷ ps)) (at_call own None (held ps))
    (held (caller_page (called actor line (CallerEvent.Commit own) reply) past ps ∷ ps)) new
    (set_hold (pin_in ps) (held ps) old new own None kept set) (λ id. refl) (held_after_commit ps past actor line own reply)
