-- The lanes of a Book, one step after another.
use Rattle.std.proofs.Common.{◌≡◌, ℕ, zero, suc, ◌+◌, ◌<◌, ◌≤◌, ◌↔◌, Bool, true, false, List, [], ◌∷◌, ◌++◌, map, length, get_or, slice_set, All, OnOk, OnErr, IsTrue, Result, Ok, Err, Option, Some, None, inl, refl, sym, ap, ap₂, ◌∙◌, subst, arith, eq-eqb, eqb-true, ne_eqb}
use Rattle.std.specs.Prelude.{◌==◌, option_to_list}
use Rattle.std.specs.List.{range_with_len, slice_get}
use Rattle.std.proofs.lemmas.Option.{get_or_from_slice_get, slice_get-get_or, slice_get_read, slice_get_within}
use Rattle.std.proofs.lemmas.List.{length-set}
use Rattle.std.proofs.lemmas.List.FromFn.{length-map-range_with_len, get_or-map-range_with_len}
use Rattle.call_journal.specs.declared.entry.Entry.{Entry}
use Rattle.call_journal.specs.declared.entry.What.{What}
use Rattle.call_journal.specs.declared.plan.Count.{Count}
use Rattle.call_journal.specs.declared.event.DriverEvent.{DriverEvent}
use Rattle.xc_base.specs.declared.names.Kind.{Kind}
use Rattle.check_steps.specs.Asking.{IsSubsequence}
use Rattle.config_assembly.specs.Orders.{Name}
use Rattle.resource_check.specs.declared.delivery.Prepared.{Prepared}
use Rattle.legal_plan.specs.xds_history.Responses.{answered_kind}
use Rattle.book_progress.specs.ActorCounts.{count_after, count_of, no_count}
use Rattle.book_progress.specs.ProgressKept.{counts_of, most_entries}
use Rattle.legal_plan.specs.xds_history.References.{snapshots_of}
use Rattle.legal_plan.specs.xds_history.declared.page.Page.{Page}
use Rattle.cluster_tree.specs.declared.snapshot.Snapshot.{Snapshot}
use Rattle.xds_book.specs.BookViews as book
use Rattle.xds_book.specs.BookViews.{BookView, LaneView}
use Rattle.xds_book.specs.BookEntries.{Drives, IsLaneOf, Makes, MakesNone, entry_of, texts_for}
use Rattle.xds_book.specs.declared.book_faults.BookFault.{BookFault}
use Rattle.xds_book.specs.declared.book_faults.BookFault.TheVariants as fault
use Rattle.session_player.specs.Stages.{Adds, AreLanes, Drove, IsLaneAt, texts_in}
use Rattle.session_player.proofs.DrivenLemmas.{other_count, own_count}

-- ---- lists

set_same : {X : Type 0} (xs : List X) (a : ℕ) (x : X) → a < length xs → slice_get (slice_set xs a x) a ≡ Some x
set_same [] a x lt = absurd (omega (arith, lt))
set_same (y ∷ ys) zero x lt = refl
set_same (y ∷ ys) (suc a) x lt = set_same ys a x (omega (arith, lt))

set_other : {X : Type 0} (xs : List X) (a k : ℕ) (x : X) → (a ≡ k → ⊥) → slice_get (slice_set xs a x) k ≡ slice_get xs k
set_other [] a k x other = refl
set_other (y ∷ ys) zero zero x other = absurd (other refl)
set_other (y ∷ ys) zero (suc k) x other = refl
set_other (y ∷ ys) (suc a) zero x other = refl
set_other (y ∷ ys) (suc a) (suc k) x other = set_other ys a k x (λ e. other (ap suc e))

counts_at : (n : ℕ) (past : List Entry) (actor : ℕ) → actor < n → slice_get (counts_of n past) actor ≡ Some (count_of actor past)
counts_at n past actor lt =
    let f : ℕ → Count = λ a. count_of a past in
    let long : length (counts_of n past) ≡ n = length-map-range_with_len f 0 n in
    slice_get-get_or (counts_of n past) actor (count_of actor past) (omega (arith, long, lt))
    ∙ ap (λ x. Some x) (get_or-map-range_with_len f 0 n actor actor (count_of actor past) lt (omega arith))

-- ---- a lane

-- the lane of an actor, in a Book whose lanes these are
pub record IsOwnLane (book : BookView) (actor : ℕ) (lane : LaneView) : Type 0 where
  pub at : IsLaneAt book.entries actor lane
  pub counted : IsLaneOf lane book

lane_counted : (book : BookView) (lanes : List LaneView) (actor : ℕ) (lane : LaneView) → AreLanes book lanes → actor < length book.counts → IsLaneAt book.entries actor lane → IsLaneOf lane book
lane_counted book lanes actor lane are lt at =
    ap (λ (k : ℕ). slice_get book.counts k) at.actor_is
    ∙ (ap (λ (cs : List Count). slice_get cs actor) are.counts_are ∙ (counts_at (length book.counts) book.entries actor lt ∙ ap (λ (c : Count). Some c) (sym at.count_is)))

pub own_lane : (book : BookView) (lanes : List LaneView) (actor : ℕ) (lane : LaneView) → AreLanes book lanes → actor < length book.counts → lane ≡ get_or lanes actor lane → IsOwnLane book actor lane
own_lane book lanes actor lane are lt is =
    let within : actor < length lanes = subst (λ (n : ℕ). actor < n) (sym are.many) lt in
    let at = are.each actor lane (slice_get_read lanes (length lanes) actor lane refl within is) in
    record { at = at; counted = lane_counted book lanes actor lane are lt at }

-- each lane is of the Book
pub all_lanes : (book : BookView) (lanes given : List LaneView) → AreLanes book lanes → given ≡ lanes → All (λ lane. IsLaneOf lane book) given
all_lanes book lanes given are is = subst (λ (ls : List LaneView). All (λ lane. IsLaneOf lane book) ls) (sym is)
    (λ k d lt. let lane : LaneView = get_or lanes k d in
    let at = are.each k lane (slice_get-get_or lanes k d lt) in
    lane_counted book lanes k lane are (subst (λ (n : ℕ). k < n) are.many lt) at)

-- ---- after a step

module _ (old new : BookView) (lanes : List LaneView) (actor line : ℕ) (what : What) (before after : LaneView) (are : AreLanes old lanes) (lt : actor < length old.counts) (is : before ≡ get_or lanes actor before)
    (makes : Makes line what old new before after) where
  lane_own : IsLaneAt old.entries actor before
  lane_own = (own_lane old lanes actor before are lt is).at

  same_many : length new.counts ≡ length old.counts
  same_many = ap length makes.counts ∙ length-map-range_with_len (λ a. count_of a new.entries) 0 (length old.counts)

  entries_are : new.entries ≡ entry_of actor line what ∷ old.entries
  entries_are = makes.entries ∙ ap (λ (k : ℕ). entry_of k line what ∷ old.entries) lane_own.actor_is

  own_after : IsLaneAt new.entries actor after
  own_after = record {
    actor_is = ap (λ (l : LaneView). l.actor) makes.lane ∙ lane_own.actor_is;
    count_is = ap (λ (l : LaneView). l.count) makes.lane ∙ (ap (count_after what) lane_own.count_is
        ∙ (sym (own_count actor line what old.entries) ∙ sym (ap (count_of actor) entries_are)));
  }

  each_after : (k : ℕ) (lane : LaneView) (b : Bool) → (actor == k) ≡ b → slice_get (slice_set lanes actor after) k ≡ Some lane → IsLaneAt new.entries k lane
  each_after k lane true same get =
      let here : actor ≡ k = eqb-true actor k same in
      let within : actor < length lanes = subst (λ (n : ℕ). actor < n) (sym are.many) lt in
      let got : slice_get (slice_set lanes actor after) actor ≡ Some lane = subst (λ (n : ℕ). slice_get (slice_set lanes actor after) n ≡ Some lane) (sym here) get in
      let lane_is : after ≡ lane = cc (got, set_same lanes actor after within) in
      subst (λ (n : ℕ). IsLaneAt new.entries n lane) here (subst (λ (l : LaneView). IsLaneAt new.entries actor l) lane_is own_after)
  each_after k lane false other get =
      let not_here : (actor ≡ k → ⊥) = λ e. cc (other, eq-eqb actor k e) in
      let at = are.each k lane (sym (set_other lanes actor k after not_here) ∙ get) in
      record {
        actor_is = at.actor_is;
        count_is = at.count_is ∙ (sym (other_count actor line what old.entries k other) ∙ sym (ap (count_of k) entries_are));
      }

  lanes_made : AreLanes new (slice_set lanes actor after)
  lanes_made = record {
    counts_are = makes.counts ∙ ap (λ (n : ℕ). counts_of n new.entries) (sym same_many);
    many = length-set lanes actor after ∙ (are.many ∙ sym same_many);
    each = λ k lane get. each_after k lane (actor == k) refl get;
  }

  pub adds_made : Adds actor line what old new
  adds_made = record { entries = entries_are; actors = same_many; goes_on = makes.goes_on }

set_back : {X : Type 0} (xs : List X) (a : ℕ) (x : X) → a < length xs → x ≡ get_or xs a x → slice_set xs a x ≡ xs
set_back [] a x lt is = refl
set_back (y ∷ ys) zero x lt is = ap (λ z. z ∷ ys) is
set_back (y ∷ ys) (suc a) x lt is = ap (λ zs. y ∷ zs) (set_back ys a x (omega (arith, lt)) is)

lanes_same : (old new : BookView) (lanes : List LaneView) (actor : ℕ) (before after : LaneView) → AreLanes old lanes → actor < length old.counts → before ≡ get_or lanes actor before → MakesNone old new → after ≡ before
    → AreLanes new (slice_set lanes actor after)
lanes_same old new lanes actor before after are lt is none stays =
    let within : actor < length lanes = subst (λ (n : ℕ). actor < n) (sym are.many) lt in
    let back : slice_set lanes actor after ≡ lanes = ap (λ (l : LaneView). slice_set lanes actor l) stays ∙ set_back lanes actor before within is in
    subst (λ (ls : List LaneView). AreLanes new ls) (sym back) record {
      counts_are = none.counts ∙ (are.counts_are ∙ ap₂ (λ (n : ℕ) (es : List Entry). counts_of n es) (ap length (sym none.counts)) (sym none.entries));
      many = are.many ∙ ap length (sym none.counts);
      each = λ k lane get. subst (λ (es : List Entry). IsLaneAt es k lane) (sym none.entries) (are.each k lane get);
    }

-- whatever the step answers
pub lanes_after : {T E : Type 0} (result : Result T E) (old new : BookView) (lanes : List LaneView) (actor line : ℕ) (what : What) (before after : LaneView) → AreLanes old lanes → actor < length old.counts
    → before ≡ get_or lanes actor before → OnOk result (Makes line what old new before after) → OnErr result (MakesNone old new) → OnErr result (after ≡ before) → AreLanes new (slice_set lanes actor after)
lanes_after (Ok x) old new lanes actor line what before after are lt is makes none stays = lanes_made old new lanes actor line what before after are lt is makes
lanes_after (Err e) old new lanes actor line what before after are lt is makes none stays = lanes_same old new lanes actor before after are lt is none stays

-- the same, as the Book was seen
pub adds_seen : (seen old new : BookView) (lanes : List LaneView) (actor line : ℕ) (what : BookView → What) (before after : LaneView) → AreLanes old lanes → actor < length old.counts
    → before ≡ get_or lanes actor before → old ≡ seen → Makes line (what old) old new before after → Adds actor line (what seen) seen new
adds_seen seen old new lanes actor line what before after are lt is same makes =
    subst (λ (b : BookView). Adds actor line (what b) b new) same (adds_made old new lanes actor line (what old) before after are lt is makes)

-- ---- after a step of the driver

among_none : (xs : List Name) → IsSubsequence [] xs
among_none [] = tt
among_none (x ∷ xs) = tt

among_all : (xs : List Name) → IsSubsequence xs xs
among_all [] = tt
among_all (x ∷ xs) = inl (refl, among_all xs)

among_texts : (kind : Option Kind) (prepared : Option Prepared) → IsSubsequence (texts_for kind prepared) (texts_in prepared)
among_texts None prepared = among_none (texts_in prepared)
among_texts (Some kind) None = tt
among_texts (Some kind) (Some prepared) = among_all prepared.refused

pub drove_seen : (seen old new : BookView) (lanes : List LaneView) (line : ℕ) (event : DriverEvent) (prepared : Option Prepared) (before after : LaneView) → AreLanes old lanes → 0 < length old.counts
    → before ≡ get_or lanes 0 before → old ≡ seen → Drives line event prepared old new before after → Drove line event prepared seen new
drove_seen seen old new lanes line event prepared before after are lt is same drives = record {
  reply = drives.reply;
  adds = adds_seen seen old new lanes 0 line (λ b. What.Driver event drives.reply) before after are lt is same drives.makes;
  refuses = subst (λ (xs : List Name). IsSubsequence xs (texts_in prepared)) (sym drives.refused) (among_texts (answered_kind drives.reply.verdict) prepared);
}

pub lanes_driven : {T E : Type 0} (result : Result T E) (old new : BookView) (lanes : List LaneView) (line : ℕ) (event : DriverEvent) (prepared : Option Prepared) (before after : LaneView) → AreLanes old lanes
    → 0 < length old.counts → before ≡ get_or lanes 0 before → OnOk result (Drives line event prepared old new before after) → OnErr result (MakesNone old new) → OnErr result (after ≡ before)
    → AreLanes new (slice_set lanes 0 after)
lanes_driven (Ok x) old new lanes line event prepared before after are lt is drives none stays =
    lanes_made old new lanes 0 line (What.Driver event drives.reply) before after are lt is drives.makes
lanes_driven (Err e) old new lanes line event prepared before after are lt is drives none stays = lanes_same old new lanes 0 before after are lt is none stays

-- ---- snapshots

-- two words for the snapshots that were published
pub snapshots_seen : (ps : List Page) → book.snapshots_of ps ≡ snapshots_of ps
snapshots_seen [] = refl
snapshots_seen (p ∷ ps) = ap (λ (xs : List Snapshot). xs ++ option_to_list p.snapshot) (snapshots_seen ps)
