-- What the next listed event of a lane finds in a Book.
use Rattle.std.proofs.Common.{◌≡◌, ◌≢◌, ℕ, List, length, Option, Some, None, subst}
use Rattle.xc_base.specs.declared.call.Call.{Call}
use Rattle.call_journal.specs.declared.event.CallerEvent.{CallerEvent}
use Rattle.call_journal.specs.declared.plan.Count.{Count}
use Rattle.call_journal.specs.declared.plan.Listed.{Listed}
use Rattle.channel_calls.specs.xds_history.Setting.{Setting}
use Rattle.channel_calls.specs.xds_history.References.{pinned}
use Rattle.channel_calls.specs.xds_history.Pages.{pages}
use Rattle.book_progress.specs.ActorCounts.{count_of}
use Rattle.book_progress.specs.PlayedPlans.{IsNext, IsNextOf, IsPlayed, Step}
use Rattle.book_progress.specs.PlayedPlans as played
use Rattle.book_progress.specs.ProgressKept.{counts_of, most_entries}
use Rattle.book_progress.proofs.TallyLemmas.{count_is}
use Rattle.channel_calls.specs.planned_calls.PlannedCalls.{IsNewCall}
use Rattle.channel_calls.proofs.planned_calls.CallProofs.{next_hold_is_up, next_start_is_new}
use Rattle.channel_calls.specs.ChannelPlans.{HasChannelPlan}
use Rattle.channel_calls.specs.xds_book.BookEntries.{IsLaneOf}
use Rattle.channel_calls.specs.xds_book.BookViews.{BookView, LaneView}

-- the next step by the count over the history
by_count : (plan : List (List Listed)) (lane : LaneView) (line : ℕ) (step : Step) (book : BookView) → IsLaneOf lane book → book.counts ≡ counts_of (length book.counts) book.entries
    → IsNextOf plan lane.actor lane.count line step book.entries → IsNextOf plan lane.actor (count_of lane.actor book.entries) line step book.entries
by_count plan lane line step book own counted next =
    let is : lane.count ≡ count_of lane.actor book.entries = count_is (length book.counts) book.entries book.counts lane.actor lane.count counted own in
    subst (λ (c : Count). IsNextOf plan lane.actor c line step book.entries) is next

-- the call whose start comes next is new
pub call_is_new : (s : Setting) (plan : Option (List (List Listed))) (authorities : ℕ) (lane : LaneView) (line : ℕ) (call : Call) (book : BookView) → HasChannelPlan plan authorities most_entries → IsLaneOf lane book
    → book.counts ≡ counts_of (length book.counts) book.entries → IsPlayed plan book.entries → IsNext plan lane.actor lane.count line (played.caller (CallerEvent.Pin call)) book.entries → IsNewCall s book.entries call.id
call_is_new s None authorities lane line call book fits own counted plays next = absurd fits
call_is_new s (Some plan) authorities lane line call book fits own counted plays next =
    next_start_is_new s plan book.entries lane.actor line call plays fits.starts (by_count plan lane line (played.caller (CallerEvent.Pin call)) book own counted next)

-- the pin of the call whose hold comes next is up
pub call_is_up : (s : Setting) (plan : Option (List (List Listed))) (authorities : ℕ) (lane : LaneView) (line : ℕ) (call : Call) (book : BookView) → HasChannelPlan plan authorities most_entries → IsLaneOf lane book
    → book.counts ≡ counts_of (length book.counts) book.entries → IsPlayed plan book.entries → IsNext plan lane.actor lane.count line (played.caller (CallerEvent.Hold call)) book.entries
    → pinned (pages s book.entries) call.id ≢ None
call_is_up s None authorities lane line call book fits own counted plays next = absurd fits
call_is_up s (Some plan) authorities lane line call book fits own counted plays next =
    next_hold_is_up s plan book.entries lane.actor line call plays fits.starts (by_count plan lane line (played.caller (CallerEvent.Hold call)) book own counted next)
