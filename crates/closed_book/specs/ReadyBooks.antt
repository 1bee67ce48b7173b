-- Books in which all is played but the last sweep (this project's own).
use Rattle.std.specs.Prelude.{◌≡◌, ◌<◌, ◌≤◌, ◌^◌, ℕ, List, length, All, Some, false, slice_get}
use Rattle.call_journal.specs.declared.plan.Listed.{Listed}
use Rattle.channel_plan.specs.xds_history.Responses.{refused_texts}
use Rattle.book_progress.specs.ActorCounts.{count_of, with_ended}
use Rattle.book_progress.specs.PlayedPlans.{IsListed, all_ended}
use Rattle.book_progress.specs.ProgressKept.{most_entries}
use Rattle.sweep_law.specs.SweepLaw.{listed_sweep}
use Rattle.channel_plan.specs.xds_book.BookEntries.{IsLaneOf}
use Rattle.channel_plan.specs.xds_book.BookViews.{BookView, LaneView}

-- a caller's lane is of the Book
pub record IsCallerOf (book : BookView) (lane : LaneView) : Type 0 where
  pub caller : 0 < lane.actor
  pub own : IsLaneOf lane book

-- The driver is actor 0. All lanes are of the Book, and the driver's refused texts are those of the journal. Each caller has
-- ended all events of its list, and the driver all but one, which is the last sweep. The Book takes one more entry.
pub record IsReadyToClose (plan : List (List Listed)) (book : BookView) (driver : LaneView) (lanes : List LaneView) : Type 0 where
  pub own : IsLaneOf driver book
  pub refused : driver.refused ≡ refused_texts book.entries
  pub callers : All (IsCallerOf book) lanes
  pub ended : (caller : ℕ) (list : List Listed) → 0 < caller → slice_get plan caller ≡ Some list → count_of caller book.entries ≡ all_ended list
  pub driven : (list : List Listed) → slice_get plan 0 ≡ Some list → with_ended (count_of 0 book.entries) ≡ all_ended list
  pub sweep : IsListed plan 0 (count_of 0 book.entries) listed_sweep
  pub goes_on : book.is_spent ≡ false
  pub room : length book.entries < most_entries
  pub few : length plan ≤ 2 ^ 16
