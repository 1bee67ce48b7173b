-- What a lane's next listed event finds in the Book.
use Rattle.std.proofs.Common.{◌≡◌, ◌≢◌, ◌<◌, ◌≤◌, ℕ, Bool, false, List, length, Option, Some, None, refl, sym, ap, ◌∙◌, subst, arith}
use Rattle.std.specs.Prelude.{IsTrue}
use Rattle.xc_base.specs.declared.call.Call.{Call}
use Rattle.call_journal.specs.declared.event.CallerEvent.{CallerEvent}
use Rattle.call_journal.specs.declared.event.DriverEvent.{DriverEvent}
use Rattle.call_journal.specs.declared.entry.Entry.{Entry}
use Rattle.call_journal.specs.declared.plan.Count.{Count}
use Rattle.call_journal.specs.declared.plan.Listed.{Listed}
use Rattle.call_journal.specs.declared.plan.ListedEvent.{ListedEvent}
use Rattle.planned_calls.specs.xds_history.Setting.{Setting}
use Rattle.planned_calls.specs.xds_history.References.{pinned}
use Rattle.planned_calls.specs.xds_history.Pages.{pages}
use Rattle.book_progress.specs.ActorCounts.{count_of}
use Rattle.book_progress.specs.EndedLines.{IsOpen}
use Rattle.book_progress.specs.PlayedPlans.{IsNext, IsNextOf, IsStep, Step}
use Rattle.book_progress.specs.PlayedPlans as played
use Rattle.book_progress.specs.ProgressKept.{most_entries}
use Rattle.book_progress.proofs.TallyLemmas.{count_is}
use Rattle.planned_calls.specs.PlannedCalls.{IsNewCall, plan_entries}
use Rattle.planned_calls.proofs.CallProofs.{next_hold_is_up, next_start_is_new}
use Rattle.planned_calls.proofs.RoomProofs.{next_has_room}
use Rattle.lane_checks.specs.xds_book.declared.book_faults.BookFault.{BookFault}
use Rattle.lane_checks.specs.xds_book.BookEntries.{IsFull, IsKnownTo}
use Rattle.lane_checks.specs.xds_book.BookViews.{BookView, LaneView}
use Rattle.lane_checks.specs.book_hearing.HeardEvents.{IsShortIn}
use Rattle.channel_calls.specs.ChannelPlans.{HasChannelPlan, HasListed}
use Rattle.channel_calls.specs.declared.channel_faults.First.{First}
use Rattle.channel_calls.specs.LockedBooks.{IsFree, IsOpenTo, LockedView}

-- ---- an event of the driver

pub drivable : (plan : Option (List (List Listed))) (authorities room : ℕ) (lane : LaneView) (pins line : ℕ) (after : Option ℕ) (event : DriverEvent) → HasChannelPlan plan authorities room
    → HasListed plan lane pins line after (ListedEvent.Driver event) → IsKnownTo authorities event × IsShortIn event
drivable None authorities room lane pins line after event fits has = absurd has
drivable (Some plan) authorities room lane pins line after event fits has =
    fits.events lane.actor lane.count (record { line = line; after = after; event = ListedEvent.Driver event }) has.listed

-- ---- the next step

pub next_step : (plan : Option (List (List Listed))) (lane : LaneView) (pins line : ℕ) (after : Option ℕ) (event : ListedEvent) (step : Step) (history : List Entry) → HasListed plan lane pins line after event
    → IsStep step event pins → IsOpen after history → IsNext plan lane.actor lane.count line step history
next_step None lane pins line after event step history has is gate = absurd has
next_step (Some plan) lane pins line after event step history has is gate = record {
  listed = record { line = line; after = after; event = event };
  is = has.listed;
  line_is = refl;
  step_is = subst (λ (p : ℕ). IsStep step event p) (sym has.pins_are) is;
  gate = gate;
}

-- the same by the count over the history
next_of : (plan : List (List Listed)) (lane : LaneView) (line : ℕ) (step : Step) (book : BookView) → IsOpenTo (Some plan) lane book → IsNextOf plan lane.actor lane.count line step book.entries
    → IsNextOf plan lane.actor (count_of lane.actor book.entries) line step book.entries
next_of plan lane line step book opens next =
    let is : lane.count ≡ count_of lane.actor book.entries = count_is (length book.counts) book.entries book.counts lane.actor lane.count opens.counted opens.own in
    subst (λ (c : Count). IsNextOf plan lane.actor c line step book.entries) is next

not_most : (n planned most : ℕ) → n < planned → planned ≤ most → n ≡ most → ⊥
not_most n planned most less few is = absurd (omega (arith, less, few, is))

-- its Book isn't full
pub never_full : (plan : Option (List (List Listed))) (authorities : ℕ) (lane : LaneView) (line : ℕ) (step : Step) (book : BookView) → HasChannelPlan plan authorities most_entries → IsOpenTo plan lane book
    → IsNext plan lane.actor lane.count line step book.entries → IsFull book → ⊥
never_full None authorities lane line step book fits opens next full = absurd fits
never_full (Some plan) authorities lane line step book fits opens next full =
    let less : length book.entries < plan_entries plan = next_has_room plan book.entries lane.actor line step opens.played (next_of plan lane line step book opens next) in
    not_most (length book.entries) (plan_entries plan) most_entries less fits.entries full.1

-- its call is new
pub new_call : (s : Setting) (plan : Option (List (List Listed))) (authorities : ℕ) (lane : LaneView) (line : ℕ) (call : Call) (book : BookView) → HasChannelPlan plan authorities most_entries → IsOpenTo plan lane book
    → IsNext plan lane.actor lane.count line (played.caller (CallerEvent.Pin call)) book.entries → IsNewCall s book.entries call.id
new_call s None authorities lane line call book fits opens next = absurd fits
new_call s (Some plan) authorities lane line call book fits opens next =
    next_start_is_new s plan book.entries lane.actor line call opens.played fits.starts (next_of plan lane line (played.caller (CallerEvent.Pin call)) book opens next)

-- its pin is up
pub pin_is_up : (s : Setting) (plan : Option (List (List Listed))) (authorities : ℕ) (lane : LaneView) (line : ℕ) (call : Call) (book : BookView) → HasChannelPlan plan authorities most_entries → IsOpenTo plan lane book
    → IsNext plan lane.actor lane.count line (played.caller (CallerEvent.Hold call)) book.entries → pinned (pages s book.entries) call.id ≢ None
pin_is_up s None authorities lane line call book fits opens next = absurd fits
pin_is_up s (Some plan) authorities lane line call book fits opens next =
    next_hold_is_up s plan book.entries lane.actor line call opens.played fits.starts (next_of plan lane line (played.caller (CallerEvent.Hold call)) book opens next)

-- ---- what a step finds in its Book, which is the one that let the lane in

pub book_is : (book : BookView) (first : Option First) (new old : LockedView) → record { book = book; first = first } ≡ new → new ≡ old → book ≡ old.book
book_is book first new old seen same = ap (λ (l : LockedView). l.book) (seen ∙ same)

pub still_open : (plan : Option (List (List Listed))) (lane : LaneView) (old : LockedView) (book : BookView) → IsOpenTo plan lane old.book → book ≡ old.book → IsOpenTo plan lane book
still_open plan lane old book opens same = subst (λ (b : BookView). IsOpenTo plan lane b) (sym same) opens

pub step_at : (plan : Option (List (List Listed))) (lane : LaneView) (pins line : ℕ) (after : Option ℕ) (event : ListedEvent) (step : Step) (old : LockedView) (book : BookView) → HasListed plan lane pins line after event
    → IsStep step event pins → IsFree lane after old → old.first ≡ None → IsOpenTo plan lane old.book → book ≡ old.book → IsNext plan lane.actor lane.count line step book.entries
step_at plan lane pins line after event step old book has is free goes opens same =
    next_step plan lane pins line after event step book.entries has is (subst (λ (b : BookView). IsOpen after b.entries) (sym same) (free goes opens.own))

not_spent : (spent : Bool) → spent ≡ false → IsTrue spent → ⊥
not_spent spent is not = absurd (cc (is, not))

by_fault : (fault : BookFault) → (fault ≡ BookFault.Ended → ⊥) → (fault ≡ BookFault.Full → ⊥) → fault ≡ BookFault.Memory
by_fault BookFault.Ended ended full = absurd (ended refl)
by_fault BookFault.Full ended full = absurd (full refl)
by_fault BookFault.Memory ended full = refl

-- want of memory is its only fault
pub memory_left : (plan : Option (List (List Listed))) (authorities : ℕ) (lane : LaneView) (pins line : ℕ) (after : Option ℕ) (event : ListedEvent) (step : Step) (old : LockedView) (book : BookView) (fault : BookFault)
    → HasChannelPlan plan authorities most_entries → HasListed plan lane pins line after event → IsStep step event pins → IsFree lane after old → old.first ≡ None → IsOpenTo plan lane old.book → book ≡ old.book
    → (fault ≡ BookFault.Ended → IsTrue book.is_spent) → (fault ≡ BookFault.Full → IsFull book) → fault ≡ BookFault.Memory
memory_left plan authorities lane pins line after event step old book fault fits has is free goes opens same ended full =
    let there : IsOpenTo plan lane book = still_open plan lane old book opens same in
    let next : IsNext plan lane.actor lane.count line step book.entries = step_at plan lane pins line after event step old book has is free goes opens same in
    by_fault fault (λ e. not_spent book.is_spent there.goes_on (ended e)) (λ f. never_full plan authorities lane line step book fits there next (full f))
