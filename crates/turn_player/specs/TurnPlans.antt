-- Plans by which turns are played, and where the lanes of actors are between their turns (this project's own).
use Rattle.std.specs.Prelude.{◌≡◌, ◌<◌, ℕ, List, Option, Some, IfSome}
use Rattle.call_journal.specs.declared.plan.Listed.{Listed}
use Rattle.book_progress.specs.ProgressKept.{most_entries}
use Rattle.session_player.specs.xds_book.BookViews.{LaneView, PinnedView}
use Rattle.turn_steps.specs.channel_calls.ChannelPlans.{HasChannelPlan, HasUp}

-- these are the lists of the plan, which a Book with so many authorities plays
pub record IsTurnPlan (plan : Option (List (List Listed))) (authorities : ℕ) (lists : List (List Listed)) : Type 0 where
  pub planned : plan ≡ Some lists
  pub fits : HasChannelPlan plan authorities most_entries

-- the token of a pin that is up, with the line in which its call starts and the line that gates it
pub record UpView : Type 0 where
  pub token : PinnedView
  pub line : ℕ
  pub after : Option ℕ

-- the lane of an actor, and the pin of its call if one is up
pub record SeatView : Type 0 where
  pub lane : LaneView
  pub up : Option UpView

-- the call of the token is the one that is listed for the lane, and its hold comes next
pub record IsUp (plan : Option (List (List Listed))) (lane : LaneView) (up : UpView) : Type 0 where
  pub caller : 0 < lane.actor
  pub listed : HasUp plan lane up.line up.after up.token.call

abbrev pub IsSeat : Option (List (List Listed)) → SeatView → Type 0
IsSeat plan seat = IfSome seat.up (IsUp plan seat.lane)
