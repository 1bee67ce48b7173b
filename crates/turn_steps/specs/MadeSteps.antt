-- Steps that are made where the lines that gate them have ended (this project's own).
use Rattle.std.specs.Prelude.{◌≡◌, ◌<◌, ℕ, length, false, Option}
use Rattle.book_progress.specs.EndedLines.{IsOpen}
use Rattle.book_progress.specs.ProgressKept.{most_entries}
use Rattle.channel_calls.specs.xds_book.BookEntries.{IsLaneOf}
use Rattle.channel_calls.specs.xds_book.BookViews.{BookView, LaneView}

-- A step of a lane can be made: the lane is of the Book, the line that gates the step, if one does, has ended, and the Book
-- takes more entries.
pub record CanStep (lane : LaneView) (after : Option ℕ) (book : BookView) : Type 0 where
  pub own : IsLaneOf lane book
  pub gate : IsOpen after book.entries
  pub goes_on : book.is_spent ≡ false
  pub room : length book.entries < most_entries
