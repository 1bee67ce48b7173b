-- What a turn that is played leaves.
use Rattle.std.proofs.Common.{◌≡◌, ℕ, List, [], ◌∷◌, Option, Some, None, Result, Ok, Err, sym, refl, subst}
use Rattle.std.specs.Prelude.{IsErr, IsOk, OnErr, OnOk, slice_get}
use Rattle.call_journal.specs.declared.entry.Entry.{Entry}
use Rattle.call_journal.specs.declared.plan.Listed.{Listed}
use Rattle.call_journal.specs.declared.plan.ListedEvent.{ListedEvent}
use Rattle.config_assembly.specs.Orders.{Name}
use Rattle.book_progress.specs.PlayedPlans.{IsPlayed}
use Rattle.book_progress.specs.ProgressKept.{most_entries}
use Rattle.session_player.specs.xds_book.BookEntries.{entry_of}
use Rattle.session_player.specs.xds_book.BookViews.{BookView, LaneView}
use Rattle.turn_steps.specs.channel_calls.ChannelPlans.{HasChannelPlan, HasNext, IsDrivable}
use Rattle.turn_steps.specs.MadeSteps.{CanStep}
use Rattle.turn_player.specs.TurnPlans.{IsTurnPlan, SeatView, UpView}
use Rattle.turn_player.specs.DueEvents.{IsOf, IsShortOf, ListsOf}
use Rattle.turn_player.specs.TableSeats.{AreSeated, HasMore, IsDue, IsTurnPlayed}
use Rattle.turn_player.specs.TablePlaces.{IsHoldAt, IsNextOn, IsTurnMade, PlaysOnce}
use Rattle.turn_player.proofs.PlaceLemmas.{due_at, due_can, due_is_of, up_gate}
use Rattle.turn_player.proofs.SeatLemmas.{played_seats, turn_of}

same_seat : (seats : List SeatView) (actor : ℕ) (one other : SeatView) → slice_get seats actor ≡ Some one → slice_get seats actor ≡ Some other → one ≡ other
same_seat seats actor one other a b = cc (a, b)

-- ---- what is listed next

-- it is short enough to be read
short_event : (authorities : ℕ) (event : ListedEvent) → IsDrivable authorities event → IsShortOf event
short_event authorities (ListedEvent.Driver event) known = known.1
short_event authorities (ListedEvent.Start call) known = tt
short_event authorities (ListedEvent.Pick id word) known = tt
short_event authorities (ListedEvent.Commit id) known = tt

short_next : (plan : Option (List (List Listed))) (authorities room : ℕ) (lane : LaneView) (listed : Listed) → HasChannelPlan plan authorities room → HasNext plan lane listed.line listed.after listed.event → IsShortOf listed.event
short_next None authorities room lane listed fits has = absurd has
short_next (Some plan) authorities room lane listed fits has =
    short_event authorities listed.event (fits.events lane.actor lane.count (record { line = listed.line; after = listed.after; event = listed.event }) has.listed)

pub short_on : (plan : Option (List (List Listed))) (authorities room actor line : ℕ) (book : BookView) (seats : List SeatView) (listed : Listed) → HasChannelPlan plan authorities room → IsNextOn plan actor line book seats listed
    → IsShortOf listed.event
short_on plan authorities room actor line book seats listed fits on = short_next plan authorities room on.seat.lane listed fits on.next.next

-- what was prepared is listed next for the seat of the actor
pub due_next : (plan : Option (List (List Listed))) (actor line : ℕ) (book : BookView) (seats : List SeatView) (listed : Listed) (at_line : ℕ) (at_after : Option ℕ) (event : ListedEvent) → IsNextOn plan actor line book seats listed
    → at_line ≡ listed.line → at_after ≡ listed.after → event ≡ listed.event → (own : SeatView) → slice_get seats actor ≡ Some own → HasNext plan own.lane at_line at_after event
due_next plan actor line book seats listed at_line at_after event on lines afters events own at_own =
    let two : HasNext plan own.lane listed.line listed.after listed.event =
    subst (λ (s : SeatView). HasNext plan s.lane listed.line listed.after listed.event) (same_seat seats actor on.seat own on.at at_own) on.next.next in
    let three : HasNext plan own.lane at_line listed.after listed.event = subst (λ (l : ℕ). HasNext plan own.lane l listed.after listed.event) (sym lines) two in
    let four : HasNext plan own.lane at_line at_after listed.event = subst (λ (a : Option ℕ). HasNext plan own.lane at_line a listed.event) (sym afters) three in
    subst (λ (e : ListedEvent). HasNext plan own.lane at_line at_after e) (sym events) four

pub due_free : (plan : Option (List (List Listed))) (actor line : ℕ) (book : BookView) (seats : List SeatView) (listed : Listed) → IsNextOn plan actor line book seats listed → (own : SeatView) → slice_get seats actor ≡ Some own
    → own.up ≡ None
due_free plan actor line book seats listed on own at_own = subst (λ (s : SeatView). s.up ≡ None) (same_seat seats actor on.seat own on.at at_own) on.free

-- what halts no step that is prepared
pub prepared_can : (lane : LaneView) (at_after after : Option ℕ) (book : BookView) → at_after ≡ after → CanStep lane after book → CanStep lane at_after book
prepared_can lane at_after after book is can = subst (λ (a : Option ℕ). CanStep lane a book) (sym is) can

pub prepared_of : (actor : ℕ) (own event : ListedEvent) → own ≡ event → IsOf actor event → IsOf actor own
prepared_of actor own event is by = subst (λ (e : ListedEvent). IsOf actor e) (sym is) by

-- ---- where a turn is due

by_lists : (plan : Option (List (List Listed))) (lists : List (List Listed)) (authorities : ℕ) → IsTurnPlan plan authorities lists → HasChannelPlan (Some lists) authorities most_entries
by_lists plan lists authorities turns = subst (λ (p : Option (List (List Listed))). HasChannelPlan p authorities most_entries) turns.planned turns.fits

-- it can be made
pub next_can : (plan : Option (List (List Listed))) (lists : List (List Listed)) (authorities actor line : ℕ) (book : BookView) (seats : List SeatView) (listed : Listed) → IsTurnPlan plan authorities lists → IsPlayed plan book.entries
    → (on : IsNextOn (Some lists) actor line book seats listed) → AreSeated book seats → IsDue lists actor line book → CanStep on.seat.lane listed.after book
next_can plan lists authorities actor line book seats listed turns plays on seated due =
    due_can lists authorities actor line listed.after book seats on.seat due (by_lists plan lists authorities turns) (subst (λ (p : Option (List (List Listed))). IsPlayed p book.entries) turns.planned plays) seated on.at
    (on.next.gate (seated.each actor on.seat on.at).own)

pub next_of : (lists : List (List Listed)) (actor line : ℕ) (book : BookView) (seats : List SeatView) (listed : Listed) (on : IsNextOn (Some lists) actor line book seats listed) → AreSeated book seats → IsDue lists actor line book
    → IsOf on.seat.lane.actor listed.event
next_of lists actor line book seats listed on seated due = due_is_of lists (Some lists) actor line book seats on.seat listed refl due seated on.at on.next.next

-- so can the hold of a call whose pin is up
pub hold_can : (plan : Option (List (List Listed))) (lists : List (List Listed)) (authorities actor line : ℕ) (book : BookView) (seats : List SeatView) → IsTurnPlan plan authorities lists → IsPlayed plan book.entries
    → (hold : IsHoldAt plan actor line seats) → AreSeated book seats → IsDue lists actor line book → CanStep hold.seat.lane hold.up.after book
hold_can plan lists authorities actor line book seats turns plays hold seated due =
    due_can lists authorities actor line hold.up.after book seats hold.seat due (by_lists plan lists authorities turns) (subst (λ (p : Option (List (List Listed))). IsPlayed p book.entries) turns.planned plays) seated hold.at
    (up_gate lists plan hold.seat.lane hold.up line due.step book turns.planned hold.here.up_is.listed (due_at lists actor line book seats hold.seat due seated hold.at))

-- ---- what was made

pub next_made : {T E : Type 0} (result : Result T E) (actor line at_line : ℕ) (own event : ListedEvent) (texts : List Name) (lines : List ℕ) (old new : BookView) (before after : List SeatView) (told tells : List Name) → at_line ≡ line → own ≡ event
    → ((listed : List Name) → ListsOf event lines listed → tells ≡ told → texts ≡ listed) → OnOk result (PlaysOnce actor at_line own texts old new before after)
    → OnOk result (IsTurnMade actor line lines old new before after told tells)
next_made (Err halt) actor line at_line own event texts lines old new before after told tells is events known once = tt
next_made (Ok value) actor line at_line own event texts lines old new before after told tells is events known once = record {
  event = own;
  texts = texts;
  once = subst (λ (l : ℕ). PlaysOnce actor l own texts old new before after) is once;
  known = λ listed lists same. known listed (subst (λ (e : ListedEvent). ListsOf e lines listed) events lists) same;
}

pub hold_made : {T E : Type 0} (result : Result T E) (plan : Option (List (List Listed))) (actor line : ℕ) (lines : List ℕ) (old new : BookView) (before after : List SeatView) (told tells : List Name) → IsHoldAt plan actor line before
    → OnOk result ((seat : SeatView) (up : UpView) → slice_get before actor ≡ Some seat → seat.up ≡ Some up → PlaysOnce actor up.line (ListedEvent.Start up.token.call) [] old new before after)
    → OnOk result (IsTurnMade actor line lines old new before after told tells)
hold_made (Err halt) plan actor line lines old new before after told tells hold made = tt
hold_made (Ok value) plan actor line lines old new before after told tells hold made = record {
  event = ListedEvent.Start hold.up.token.call;
  texts = [];
  once = subst (λ (l : ℕ). PlaysOnce actor l (ListedEvent.Start hold.up.token.call) [] old new before after) hold.here.line_is (made hold.seat hold.up hold.at hold.up_is);
  known = λ listed lists same. sym lists;
}

-- what holds where a step isn't made
pub on_err : {T E : Type 0} (result : Result T E) (P : Type 0) → IsErr result → OnErr result P → P
on_err (Err halt) P is holds = holds
on_err (Ok value) P is holds = absurd (cc is)

-- nothing more was made
pub none_more : (entries : List Entry) → HasMore entries entries
none_more entries = record { more = []; is = refl }

-- what was made by a turn that may have been made
pub made_more : {T E : Type 0} (result : Result T E) (actor line : ℕ) (lines : List ℕ) (old new : BookView) (before after : List SeatView) (told tells : List Name) → OnOk result (IsTurnMade actor line lines old new before after told tells)
    → OnErr result (new.entries ≡ old.entries) → HasMore old.entries new.entries
made_more (Err halt) actor line lines old new before after told tells made none = record { more = []; is = none }
made_more (Ok value) actor line lines old new before after told tells made none = record {
  more = entry_of made.once.seat.lane.actor line made.once.turn.what ∷ [];
  is = made.once.turn.makes.entries;
}

-- ---- what a turn that was made leaves

pub made_seats : {T E : Type 0} (result : Result T E) (actor line : ℕ) (lines : List ℕ) (old new : BookView) (before after : List SeatView) (told tells : List Name) → IsOk result → OnOk result (IsTurnMade actor line lines old new before after told tells)
    → AreSeated old before → AreSeated new after
made_seats (Err halt) actor line lines old new before after told tells is made seated = absurd (cc is)
made_seats (Ok value) actor line lines old new before after told tells is made seated = played_seats actor line made.event made.texts old new before after made.once seated

pub made_turn : {T E : Type 0} (result : Result T E) (actor line : ℕ) (lines : List ℕ) (old new : BookView) (before after : List SeatView) (told tells : List Name) → IsOk result → OnOk result (IsTurnMade actor line lines old new before after told tells)
    → AreSeated old before → IsTurnPlayed actor line lines old new told tells
made_turn (Err halt) actor line lines old new before after told tells is made seated = absurd (cc is)
made_turn (Ok value) actor line lines old new before after told tells is made seated = turn_of actor line made.event made.texts lines old new before after told tells made.once seated made.known
