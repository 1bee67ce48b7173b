-- Where turns stand in a plan.
use Rattle.std.proofs.Common.{◌≡◌, ◌≢◌, ◌<◌, ◌≤◌, ◌+◌, ℕ, List, ◌∷◌, length, drop, All, Option, Some, None, refl, sym, ap, ◌∙◌, subst, arith}
use Rattle.std.specs.Prelude.{IfNone, IfSome, slice_get, slice_index_or}
use Rattle.std.proofs.lemmas.Option.{get_or_from_slice_get, none-some, same_Some, slice_get_read, slice_get_within}
use Rattle.std.proofs.lemmas.List.{drop_all, drop_more}
use Rattle.std.proofs.lemmas.List.Elements.{All-cons, All-nil}
use Rattle.call_journal.specs.declared.event.CallerEvent.{CallerEvent}
use Rattle.call_journal.specs.declared.plan.Count.{Count}
use Rattle.call_journal.specs.declared.plan.Listed.{Listed}
use Rattle.call_journal.specs.declared.plan.ListedEvent.{ListedEvent}
use Rattle.book_progress.specs.ActorCounts.{count_of}
use Rattle.book_progress.specs.EndedLines.{IsOpen}
use Rattle.book_progress.specs.PlayedPlans.{IsCallStep, IsListed, IsNextOf, IsPlanPlayed, IsStep, Step}
use Rattle.book_progress.specs.PlayedPlans as played
use Rattle.book_progress.specs.ProgressKept.{most_entries}
use Rattle.book_progress.proofs.TallyLemmas.{count_is}
use Rattle.turn_steps.specs.planned_calls.PlannedCalls.{plan_entries}
use Rattle.turn_steps.proofs.planned_calls.RoomProofs.{next_has_room}
use Rattle.session_player.specs.xds_book.BookEntries.{IsLaneOf}
use Rattle.session_player.specs.xds_book.BookKept.{HasActors}
use Rattle.session_player.specs.xds_book.BookViews.{BookView, LaneView}
use Rattle.turn_steps.specs.channel_calls.ChannelPlans.{HasChannelPlan, HasNext, HasUp}
use Rattle.turn_steps.specs.MadeSteps.{CanStep}
use Rattle.turn_player.specs.TurnPlans.{IsSeat, IsUp, SeatView, UpView}
use Rattle.turn_player.specs.DueEvents.{IsOf}
use Rattle.turn_player.specs.TableSeats.{AreDone, AreSeated, HasNoLineLeft, IsBy, IsDone, IsDue, IsSeatOf, IsSweepNext}
use Rattle.turn_player.specs.TablePlaces.{IsFreePlace, IsHoldAt, IsMisplaced, IsPlace, IsSweepListed, IsSweepPlace, IsTurnPlace, IsUpAt, IsUpHere}
use Rattle.turn_player.proofs.TurnLemmas.{pins_of}
use Rattle.turn_player.specs.declared.turn_places.Place.{Place}
use Rattle.turn_player.specs.declared.turn_places.Place.TheVariants as place

-- a plan lists one event next
pub one_listed : (plan : List (List Listed)) (actor : ℕ) (count : Count) (one other : Listed) → IsListed plan actor count one → IsListed plan actor count other → one ≡ other
one_listed plan actor count one other a b =
    let list : a.list ≡ b.list = same_Some a.list b.list (sym a.actor_is ∙ b.actor_is) in
    same_Some one other (sym a.next_is ∙ ap (λ (l : List Listed). slice_get l count.ended) list ∙ b.next_is)

-- ---- a lane of which no pin is up

pub nothing_next : (plan : List (List Listed)) (lane : LaneView) (found : Option Listed) (line : ℕ) (book : BookView) → ((listed : Listed) → lane.count.pins ≡ 0 → IsListed plan lane.actor lane.count listed → found ≡ Some listed)
    → found ≡ None → lane.count.pins ≡ 0 → IsMisplaced plan line book lane
nothing_next plan lane found line book some none free = λ step next nonzero. none-some next.listed (sym none ∙ some next.listed free next.is)

-- ---- a call whose pin is up

-- what is listed next for a lane whose pin is up
up_listed : (lists : List (List Listed)) (plan : Option (List (List Listed))) (lane : LaneView) (up : UpView) (listed : Listed) → plan ≡ Some lists → HasUp plan lane up.line up.after up.token.call
    → IsListed lists lane.actor lane.count listed → record { line = up.line; after = up.after; event = ListedEvent.Start up.token.call } ≡ listed
up_listed lists None lane up listed is has next = absurd has
up_listed lists (Some plan) lane up listed is has next =
    let here = subst (λ (p : List (List Listed)). IsListed p lane.actor lane.count (record { line = up.line; after = up.after; event = ListedEvent.Start up.token.call })) (same_Some plan lists is) has.listed in
    one_listed lists lane.actor lane.count (record { line = up.line; after = up.after; event = ListedEvent.Start up.token.call }) listed here next

pub another_up : (lists : List (List Listed)) (plan : Option (List (List Listed))) (lane : LaneView) (up : UpView) (line : ℕ) (book : BookView) → plan ≡ Some lists → HasUp plan lane up.line up.after up.token.call → (up.line ≡ line → line ≢ 0 → ⊥)
    → IsMisplaced lists line book lane
another_up lists plan lane up line book is has apart = λ step next nonzero.
    apart (ap (λ (l : Listed). l.line) (up_listed lists plan lane up next.listed is has next.is) ∙ sym next.line_is) nonzero

pub up_gate : (lists : List (List Listed)) (plan : Option (List (List Listed))) (lane : LaneView) (up : UpView) (line : ℕ) (step : Step) (book : BookView) → plan ≡ Some lists → HasUp plan lane up.line up.after up.token.call
    → IsNextOf lists lane.actor lane.count line step book.entries → IsOpen up.after book.entries
up_gate lists plan lane up line step book is has next = subst (λ (l : Listed). IsOpen l.after book.entries) (sym (up_listed lists plan lane up next.listed is has next.is)) next.gate

-- ---- a turn that is due

-- by the count of its lane
pub due_at : (plan : List (List Listed)) (actor line : ℕ) (book : BookView) (seats : List SeatView) (seat : SeatView) (due : IsDue plan actor line book) → AreSeated book seats → slice_get seats actor ≡ Some seat
    → IsNextOf plan seat.lane.actor seat.lane.count line due.step book.entries
due_at plan actor line book seats seat due seated at =
    let stood : IsSeatOf book actor seat = seated.each actor seat at in
    let count : seat.lane.count ≡ count_of seat.lane.actor book.entries = count_is (length book.counts) book.entries book.counts seat.lane.actor seat.lane.count seated.counted stood.own in
    let next : IsNextOf plan seat.lane.actor (count_of seat.lane.actor book.entries) line due.step book.entries =
    subst (λ (a : ℕ). IsNextOf plan a (count_of a book.entries) line due.step book.entries) (sym stood.actor_is) due.next in
    subst (λ (c : Count). IsNextOf plan seat.lane.actor c line due.step book.entries) (sym count) next

within : (n planned most : ℕ) → n < planned → planned ≤ most → n < most
within n planned most less few = omega (arith, less, few)

pub due_can : (plan : List (List Listed)) (authorities actor line : ℕ) (after : Option ℕ) (book : BookView) (seats : List SeatView) (seat : SeatView) → IsDue plan actor line book → HasChannelPlan (Some plan) authorities most_entries
    → IsPlanPlayed plan book.entries → AreSeated book seats → slice_get seats actor ≡ Some seat → IsOpen after book.entries → CanStep seat.lane after book
due_can plan authorities actor line after book seats seat due fits plays seated at gate = record {
  own = (seated.each actor seat at).own;
  gate = gate;
  goes_on = due.goes_on;
  room = within (length book.entries) (plan_entries plan) most_entries (next_has_room plan book.entries actor line due.step plays due.next) fits.entries;
}

call_is_of : (actor : ℕ) (event : CallerEvent) (listed : ListedEvent) (pins : ℕ) → 0 < actor → IsCallStep event listed pins → IsOf actor listed
call_is_of actor (CallerEvent.Pin call) listed pins some is = subst (λ (e : ListedEvent). IsOf actor e) (sym is.0) some
call_is_of actor (CallerEvent.Hold call) listed pins some is = subst (λ (e : ListedEvent). IsOf actor e) (sym is.0) some
call_is_of actor (CallerEvent.Pick id word) listed pins some is = subst (λ (e : ListedEvent). IsOf actor e) (sym is.0) some
call_is_of actor (CallerEvent.Commit id) listed pins some is = subst (λ (e : ListedEvent). IsOf actor e) (sym is.0) some

step_is_of : (actor : ℕ) (step : Step) (listed : ListedEvent) (pins : ℕ) → IsBy actor step → IsStep step listed pins → IsOf actor listed
step_is_of actor (played.driver event) listed pins by is = subst (λ (e : ListedEvent). IsOf actor e) (sym is.0) by
step_is_of actor (played.caller event) listed pins by is = call_is_of actor event listed pins by is

next_listed : (lists : List (List Listed)) (plan : Option (List (List Listed))) (lane : LaneView) (listed other : Listed) → plan ≡ Some lists → HasNext plan lane listed.line listed.after listed.event
    → IsListed lists lane.actor lane.count other → other ≡ listed
next_listed lists None lane listed other is has next = absurd has
next_listed lists (Some plan) lane listed other is has next =
    one_listed lists lane.actor lane.count other listed next (subst (λ (p : List (List Listed)). IsListed p lane.actor lane.count listed) (same_Some plan lists is) has.listed)

-- what is listed next is an event of the actor's kind
pub due_is_of : (lists : List (List Listed)) (plan : Option (List (List Listed))) (actor line : ℕ) (book : BookView) (seats : List SeatView) (seat : SeatView) (listed : Listed) → plan ≡ Some lists → IsDue lists actor line book
    → AreSeated book seats → slice_get seats actor ≡ Some seat → HasNext plan seat.lane listed.line listed.after listed.event → IsOf seat.lane.actor listed.event
due_is_of lists plan actor line book seats seat listed is due seated at has =
    let next : IsNextOf lists seat.lane.actor seat.lane.count line due.step book.entries = due_at lists actor line book seats seat due seated at in
    let by : IsBy seat.lane.actor due.step = subst (λ (a : ℕ). IsBy a due.step) (sym (seated.each actor seat at).actor_is) due.by in
    subst (λ (l : Listed). IsOf seat.lane.actor l.event) (next_listed lists plan seat.lane listed next.listed is has next.is)
    (step_is_of seat.lane.actor due.step next.listed.event seat.lane.count.pins by next.step_is)

-- the actor of a turn that is due has a seat
pub due_has_seat : (lists : List (List Listed)) (plan : Option (List (List Listed))) (actor line : ℕ) (book : BookView) (seats : List SeatView) → plan ≡ Some lists → HasActors plan (length book.counts) → IsDue lists actor line book
    → AreSeated book seats → actor < length seats
due_has_seat lists None actor line book seats is has due seated = absurd (none-some lists is)
due_has_seat lists (Some plan) actor line book seats is has due seated =
    let same : length lists ≡ length book.counts = ap length (sym (same_Some plan lists is)) ∙ has in
    subst (λ (n : ℕ). actor < n) (same ∙ sym seated.many) (slice_get_within lists actor due.next.is.list due.next.is.actor_is)

-- ---- the place of a turn

free_pins : (o : Option UpView) (P : Type 0) → o ≡ None → IfNone o P → P
free_pins None P is holds = holds
free_pins (Some up) P is holds = absurd (cc is)

-- where no pin is up, it is the one that the lane has
free_place : (plan : Option (List (List Listed))) (lists : List (List Listed)) (line : ℕ) (book : BookView) (seat : SeatView) (at : Place) → seat.up ≡ None → IsFreePlace lists line book seat.lane at → IsPlace plan lists line book seat at
free_place plan lists line book seat (place.Misplaced why) free is = λ own none. is own (free_pins seat.up (seat.lane.count.pins ≡ 0) free none)
free_place plan lists line book seat place.Sweep free is = is
free_place plan lists line book seat place.Hold free is = absurd is
free_place plan lists line book seat (place.Next listed) free is = (free, is)

pub free_at : (plan : Option (List (List Listed))) (lists : List (List Listed)) (line : ℕ) (book : BookView) (seat now : SeatView) (at : Place) → seat ≡ now → seat.up ≡ None → IsFreePlace lists line book seat.lane at
    → IsPlace plan lists line book now at
free_at plan lists line book seat now at same free is = subst (λ (s : SeatView). IsPlace plan lists line book s at) same (free_place plan lists line book seat at free is)

-- where one is up, it is misplaced if it isn't in its line, and else the hold comes next
pub up_misplaced : (lists : List (List Listed)) (plan : Option (List (List Listed))) (seat : SeatView) (up : UpView) (line : ℕ) (book : BookView) → plan ≡ Some lists → IsUp plan seat.lane up → (up.line ≡ line → line ≢ 0 → ⊥)
    → IsLaneOf seat.lane book → IfNone seat.up (seat.lane.count.pins ≡ 0) → IsMisplaced lists line book seat.lane
up_misplaced lists plan seat up line book is has apart own none = another_up lists plan seat.lane up line book is has.listed apart

pub up_here : (plan : Option (List (List Listed))) (seat : SeatView) (up : UpView) (line : ℕ) → seat.up ≡ Some up → IsSeat plan seat → up.line ≡ line → line ≢ 0 → IsUpAt plan line seat.lane seat.up
up_here plan seat up line up_is has line_is some =
    let own : IsUp plan seat.lane up = subst (λ (o : Option UpView). IfSome o (IsUp plan seat.lane)) up_is has in
    let here : IsUpHere plan line seat.lane up = record { up_is = own; line_is = line_is; some = some } in
    subst (λ (o : Option UpView). IsUpAt plan line seat.lane o) (sym up_is) here

-- a turn that is due is at no such place
pub not_due : (plan : List (List Listed)) (actor line : ℕ) (book : BookView) (seats : List SeatView) (seat : SeatView) → (IsLaneOf seat.lane book → IfNone seat.up (seat.lane.count.pins ≡ 0) → IsMisplaced plan line book seat.lane)
    → AreSeated book seats → slice_get seats actor ≡ Some seat → IsDue plan actor line book → line ≢ 0 → ⊥
not_due plan actor line book seats seat misplaced seated at due nonzero =
    let stood : IsSeatOf book actor seat = seated.each actor seat at in
    misplaced stood.own stood.free due.step (due_at plan actor line book seats seat due seated at) nonzero

-- ---- the place of a turn, by the seats

hold_at_seat : (plan : Option (List (List Listed))) (actor line : ℕ) (seats : List SeatView) (seat : SeatView) (o : Option UpView) → seat.up ≡ o → slice_get seats actor ≡ Some seat → IsUpAt plan line seat.lane o → IsHoldAt plan actor line seats
hold_at_seat plan actor line seats seat None is at here = absurd here
hold_at_seat plan actor line seats seat (Some up) is at here = record { seat = seat; up = up; at = at; up_is = is; here = here }

pub turn_place : (plan : Option (List (List Listed))) (lists : List (List Listed)) (actor line : ℕ) (book : BookView) (seats : List SeatView) (seat : SeatView) (found : Place) → slice_get seats actor ≡ Some seat
    → IsPlace plan lists line book seat found → IsTurnPlace plan lists actor line book seats found
turn_place plan lists actor line book seats seat (place.Misplaced why) at is = λ seated due nonzero. not_due lists actor line book seats seat is seated at due nonzero
turn_place plan lists actor line book seats seat place.Sweep at is = is
turn_place plan lists actor line book seats seat place.Hold at is = hold_at_seat plan actor line seats seat seat.up refl at is
turn_place plan lists actor line book seats seat (place.Next listed) at is = record { seat = seat; at = at; free = is.0; next = is.1 }

-- the seat that a table finds for an actor
pub seat_at : (found now : List SeatView) (index actor : ℕ) (seat : SeatView) → found ≡ now → index ≡ actor → index < length found → seat ≡ slice_index_or found index seat → slice_get now actor ≡ Some seat
seat_at found now index actor seat same is less here =
    subst (λ (seats : List SeatView). slice_get seats actor ≡ Some seat) same (subst (λ (i : ℕ). slice_get found i ≡ Some seat) is (slice_get_read found (length found) index seat refl less here))

-- an actor with no seat has no turn
beyond : (n many : ℕ) → n < many → many ≤ n → ⊥
beyond n many less more = omega (arith, less, more)

pub no_seat : (lists : List (List Listed)) (plan : Option (List (List Listed))) (actor line : ℕ) (book : BookView) (seats : List SeatView) → plan ≡ Some lists → HasActors plan (length book.counts) → length seats ≤ actor
    → AreSeated book seats → IsDue lists actor line book → line ≢ 0 → ⊥
no_seat lists plan actor line book seats is has few seated due nonzero = beyond actor (length seats) (due_has_seat lists plan actor line book seats is has due seated) few

-- ---- the lines that are left

-- none is at a seat for which nothing is listed next
pub nothing_left : (plan : List (List Listed)) (seat now : SeatView) (found : Option Listed) → seat ≡ now → seat.up ≡ None
    → ((listed : Listed) → seat.lane.count.pins ≡ 0 → IsListed plan seat.lane.actor seat.lane.count listed → found ≡ Some listed) → found ≡ None → HasNoLineLeft plan now
nothing_left plan seat now found same free some none =
    subst (λ (s : SeatView). HasNoLineLeft plan s) same
    (λ counted listed is. absurd (none-some listed (sym none ∙ some listed (free_pins seat.up (seat.lane.count.pins ≡ 0) free counted) is)))

-- or at any seat behind the last one
pub all_behind : (plan : List (List Listed)) (seats : List SeatView) (i : ℕ) → length seats ≤ i → All (HasNoLineLeft plan) (drop i seats)
all_behind plan seats i beyond = subst (λ (ss : List SeatView). All (HasNoLineLeft plan) ss) (sym (drop_all i seats beyond)) (All-nil (HasNoLineLeft plan))

-- none is at any seat if none is at those before this one, at this one and at those behind it
pub left_on : (plan : List (List Listed)) (seats : List SeatView) (i : ℕ) (seat : SeatView) → slice_get seats i ≡ Some seat → HasNoLineLeft plan seat → (All (HasNoLineLeft plan) (drop i seats) → All (HasNoLineLeft plan) seats)
    → All (HasNoLineLeft plan) (drop (i + 1) seats) → All (HasNoLineLeft plan) seats
left_on plan seats i seat at none before rest =
    let is : drop i seats ≡ seat ∷ drop (i + 1) seats =
    drop_more seats i seat (slice_get_within seats i seat at) ∙ ap (λ (s : SeatView). s ∷ drop (i + 1) seats) (get_or_from_slice_get seats i seat seat at) in
    before (subst (λ (ss : List SeatView). All (HasNoLineLeft plan) ss) (sym is) (All-cons (HasNoLineLeft plan) seat (drop (i + 1) seats) none rest))

-- ---- the last sweep

-- where a pin is up, it is counted
pub up_counts : (plan : Option (List (List Listed))) (lane : LaneView) (up : UpView) → IsUp plan lane up → lane.count.pins ≡ 1
up_counts plan lane up is = pins_of plan lane 1 up.line up.after (ListedEvent.Start up.token.call) is.listed

up_pins : (plan : Option (List (List Listed))) (seat : SeatView) (up : UpView) → seat.up ≡ Some up → IsSeat plan seat → seat.lane.count.pins ≡ 0 → ⊥
up_pins plan seat up is has none =
    let own : IsUp plan seat.lane up = subst (λ (o : Option UpView). IfSome o (IsUp plan seat.lane)) is has in
    let one : seat.lane.count.pins ≡ 1 = up_counts plan seat.lane up own in
    omega (arith, one, none)

-- a seat where one is up isn't done, and no last sweep is listed next for it
pub up_is_done : (plan : Option (List (List Listed))) (lists : List (List Listed)) (seat : SeatView) (up : UpView) (found : Option ℕ) → seat.up ≡ Some up → IsSeat plan seat → IsDone lists seat → found ≡ None
up_is_done plan lists seat up found is has done = absurd (up_pins plan seat up is has done.free)

pub up_is_no_sweep : (plan : Option (List (List Listed))) (lists : List (List Listed)) (seat : SeatView) (up : UpView) (found : Place) → seat.up ≡ Some up → IsSeat plan seat → IsSweepListed lists seat.lane → IsSweepPlace found
up_is_no_sweep plan lists seat up found is has next = absurd (up_pins plan seat up is has next.free)

pub nothing_swept : (plan : List (List Listed)) (lane : LaneView) (found : Option Listed) → ((listed : Listed) → lane.count.pins ≡ 0 → IsListed plan lane.actor lane.count listed → found ≡ Some listed) → found ≡ None
    → IsSweepListed plan lane → ⊥
nothing_swept plan lane found some none has = none-some has.listed (sym none ∙ some has.listed has.free has.next)

-- what is listed for the driver is listed next for the lane of its seat
pub sweep_at : (lists : List (List Listed)) (actor line : ℕ) (book : BookView) (seats : List SeatView) (seat : SeatView) → AreSeated book seats → AreDone lists seats → slice_get seats actor ≡ Some seat → IsSweepNext lists actor line book
    → IsSweepListed lists seat.lane
sweep_at lists actor line book seats seat seated done at next =
    let stood : IsSeatOf book actor seat = seated.each actor seat at in
    let own : seat.lane.actor ≡ 0 = stood.actor_is ∙ next.actor_is in
    let count : seat.lane.count ≡ count_of seat.lane.actor book.entries = count_is (length book.counts) book.entries book.counts seat.lane.actor seat.lane.count seated.counted stood.own in
    let is : IsDone lists seat = subst (λ (s : SeatView). IsDone lists s) (get_or_from_slice_get seats actor seat seat at) (done actor seat (slice_get_within seats actor seat at)) in
    let listed : IsListed lists 0 seat.lane.count next.listed =
    subst (λ (c : Count). IsListed lists 0 c next.listed) (sym (count ∙ ap (λ (a : ℕ). count_of a book.entries) own)) next.next in
    record {
      free = is.free;
      listed = next.listed;
      next = subst (λ (a : ℕ). IsListed lists a seat.lane.count next.listed) (sym own) listed;
      sweep = next.sweep;
    }

-- the driver has a seat
pub sweep_no_seat : (lists : List (List Listed)) (plan : Option (List (List Listed))) (actor line : ℕ) (book : BookView) (seats : List SeatView) → plan ≡ Some lists → HasActors plan (length book.counts) → length seats ≤ actor
    → AreSeated book seats → IsSweepNext lists actor line book → ⊥
sweep_no_seat lists None actor line book seats is has few seated next = absurd (none-some lists is)
sweep_no_seat lists (Some plan) actor line book seats is has few seated next =
    let same : length lists ≡ length book.counts = ap length (sym (same_Some plan lists is)) ∙ has in
    let less : 0 < length seats = subst (λ (n : ℕ). 0 < n) (same ∙ sym seated.many) (slice_get_within lists 0 next.next.list next.next.actor_is) in
    beyond actor (length seats) (subst (λ (a : ℕ). a < length seats) (sym next.actor_is) less) few
