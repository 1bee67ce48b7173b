-- What is under the lock of a channel, and what the steps make of a lane (this project's own).
use Rattle.std.specs.Prelude.{◌≡◌, ℕ, List, ◌++◌, length, false, IfSome, Option, Some, None}
use Rattle.xc_base.specs.declared.call.Call.{Call}
use Rattle.call_journal.specs.declared.plan.Listed.{Listed}
use Rattle.check_steps.specs.Asking.{IsSubsequence}
use Rattle.config_assembly.specs.Orders.{Name}
use Rattle.book_progress.specs.ActorCounts.{with_ended, with_pin, without_pin}
use Rattle.book_progress.specs.EndedLines.{IsOpen}
use Rattle.book_progress.specs.PlayedPlans.{IsPlayed}
use Rattle.book_progress.specs.ProgressKept.{counts_of, most_entries}
use Rattle.lane_checks.specs.xds_book.BookEntries.{IsLaneOf}
use Rattle.lane_checks.specs.xds_book.BookViews.{BookView, LaneView, PinnedView}
use Rattle.channel_calls.specs.ChannelFaults.{IsFirst}
use Rattle.channel_calls.specs.ChannelPlans.{HasChannelPlan}
use Rattle.channel_calls.specs.declared.channel_faults.First.{First}

-- ---- under the lock

-- the Book, and the fault by which the channel has ended, if it has
pub record LockedView : Type 0 where
  pub book : BookView
  pub first : Option First

-- what holds whenever the lock is free
pub record IsLockable (plan : Option (List (List Listed))) (authorities : ℕ) (locked : LockedView) : Type 0 where
  pub plan_is : HasChannelPlan plan authorities most_entries
  pub goes_on : locked.first ≡ None → locked.book.is_spent ≡ false
  pub cause : IfSome locked.first IsFirst

-- the line that gates a step of a lane has ended, where the step can be made at all
abbrev pub IsFree : LaneView → Option ℕ → LockedView → Type 0
IsFree lane after locked = locked.first ≡ None → IsLaneOf lane locked.book → IsOpen after locked.book.entries

-- a Book that goes on, and of which the lane is
pub record IsOpenTo (plan : Option (List (List Listed))) (lane : LaneView) (book : BookView) : Type 0 where
  pub own : IsLaneOf lane book
  pub goes_on : book.is_spent ≡ false
  pub counted : book.counts ≡ counts_of (length book.counts) book.entries
  pub played : IsPlayed plan book.entries

-- ---- lanes

-- a lane that counts an event more that has ended
abbrev pub lane_ended : LaneView → LaneView
lane_ended lane = record { actor = lane.actor; count = with_ended lane.count; refused = lane.refused }

-- a lane that counts a pin more that is up
abbrev pub lane_pinned : LaneView → LaneView
lane_pinned lane = record { actor = lane.actor; count = with_pin lane.count; refused = lane.refused }

-- a lane after a hold
abbrev pub lane_held : LaneView → LaneView
lane_held lane = record { actor = lane.actor; count = without_pin lane.count; refused = lane.refused }

-- a lane after a pin, whose token is of the call: the pin is up, or with no snapshot it was all of its event
abbrev pub IsAfterPin : LaneView → LaneView → Call → Option PinnedView → Type 0
IsAfterPin before after call None = after ≡ lane_ended before
IsAfterPin before after call (Some token) = (after ≡ lane_pinned before) × (token.call ≡ call)

-- A lane of the driver counts an event more that has ended, and some of the texts that were refused when the event was
-- prepared, in their order.
pub record IsAfterEvent (before after : LaneView) (texts : List Name) : Type 0 where
  pub actor : after.actor ≡ before.actor
  pub count : after.count ≡ with_ended before.count
  pub gained : List Name
  pub refused : after.refused ≡ before.refused ++ gained
  pub among : IsSubsequence gained texts

-- the same where the texts are those by which a builder's refused ones have grown
pub record IsDriven (before after : LaneView) (told tells : List Name) : Type 0 where
  pub texts : List Name
  pub told_them : tells ≡ told ++ texts
  pub lane : IsAfterEvent before after texts
