-- The seats of a Book's actors, and the turns that are played at them (this project's own).
use Rattle.std.specs.Prelude.{◌≡◌, ◌<◌, ℕ, List, ◌∷◌, ◌++◌, All, length, slice_get, false, Some, None, IfNone}
use Rattle.call_journal.specs.declared.entry.Entry.{Entry}
use Rattle.call_journal.specs.declared.entry.What.{What}
use Rattle.call_journal.specs.declared.plan.Listed.{Listed}
use Rattle.config_assembly.specs.Orders.{Name}
use Rattle.turn_steps.specs.xds_history.Responses.{refused_in, refused_texts}
use Rattle.book_progress.specs.ActorCounts.{count_of}
use Rattle.book_progress.specs.PlayedPlans.{IsListed, IsNextOf, Step}
use Rattle.book_progress.specs.PlayedPlans as played
use Rattle.book_progress.specs.ProgressKept.{counts_of}
use Rattle.session_player.specs.xds_book.BookEntries.{IsLaneOf, entry_of}
use Rattle.session_player.specs.xds_book.BookViews.{BookView, LaneView}
use Rattle.turn_steps.specs.listed_events.ListedEvents.{ListsFor}
use Rattle.turn_player.specs.TurnPlans.{SeatView}
use Rattle.turn_player.specs.DueEvents.{told_by}

-- ---- seats

-- the seat of a lane of which no pin is up
abbrev pub free_seat : LaneView → SeatView
free_seat lane = record { lane = lane; up = None }

-- The seat of an actor: its lane is of the Book, and counts no pin where none is up. The driver's lane tells the texts as refused
-- that the entries do.
pub record IsSeatOf (book : BookView) (actor : ℕ) (seat : SeatView) : Type 0 where
  pub actor_is : seat.lane.actor ≡ actor
  pub own : IsLaneOf seat.lane book
  pub free : IfNone seat.up (seat.lane.count.pins ≡ 0)
  pub refused : actor ≡ 0 → seat.lane.refused ≡ refused_texts book.entries

-- each actor of the Book has its seat, at its number
pub record AreSeated (book : BookView) (seats : List SeatView) : Type 0 where
  pub counted : book.counts ≡ counts_of (length book.counts) book.entries
  pub many : length seats ≡ length book.counts
  pub each : (actor : ℕ) (seat : SeatView) → slice_get seats actor ≡ Some seat → IsSeatOf book actor seat

-- ---- turns

-- whatever was made came behind these entries
pub record HasMore (old new : List Entry) : Type 0 where
  pub more : List Entry
  pub is : new ≡ more ++ old

-- the texts that lines list for the event of an entry
abbrev pub ListsIn : What → List ℕ → List Name → Type 0
ListsIn (What.Driver event reply) lines listed = ListsFor event lines listed
ListsIn (What.Caller event reply) lines listed = Unit {0}

-- A turn has made one entry, of this actor and line. Where it answers a response, it tells as refused the texts that the lines
-- list, if the checks of the response stop at these, and the builder of patterns has refused no text.
pub record IsTurnPlayed (actor line : ℕ) (lines : List ℕ) (old new : BookView) (told tells : List Name) : Type 0 where
  pub what : What
  pub entries : new.entries ≡ entry_of actor line what ∷ old.entries
  pub goes_on : new.is_spent ≡ old.is_spent
  pub refused : (listed : List Name) → ListsIn what lines listed → tells ≡ told → refused_in what ≡ told_by what listed

-- the driver's steps are those of actor 0, and callers are 1 and more
abbrev pub IsBy : ℕ → Step → Type 0
IsBy actor (played.driver event) = actor ≡ 0
IsBy actor (played.caller event) = 0 < actor

-- the turn of an actor comes next by the plan, and no want of memory has ended the Book
pub record IsDue (plan : List (List Listed)) (actor line : ℕ) (book : BookView) : Type 0 where
  pub step : Step
  pub next : IsNextOf plan actor (count_of actor book.entries) line step book.entries
  pub by : IsBy actor step
  pub goes_on : book.is_spent ≡ false

-- ---- the last sweep

-- no pin is up at a seat, and nothing but the last sweep is listed next for its lane
pub record IsDone (plan : List (List Listed)) (seat : SeatView) : Type 0 where
  pub free : seat.lane.count.pins ≡ 0
  pub left : (listed : Listed) → IsListed plan seat.lane.actor seat.lane.count listed → listed.line ≡ 0

abbrev pub AreDone : List (List Listed) → List SeatView → Type 0
AreDone plan seats = All (IsDone plan) seats

-- No line of the session is left at a seat: what is listed next for its lane is of line 0, as the last sweep is. The lane counts
-- no pin where none is up.
abbrev pub HasNoLineLeft : List (List Listed) → SeatView → Type 0
HasNoLineLeft plan seat = IfNone seat.up (seat.lane.count.pins ≡ 0) → (listed : Listed) → IsListed plan seat.lane.actor seat.lane.count listed → listed.line ≡ 0

-- this turn is that of the last sweep, which is listed next for the driver
pub record IsSweepNext (plan : List (List Listed)) (actor line : ℕ) (book : BookView) : Type 0 where
  pub actor_is : actor ≡ 0
  pub line_is : line ≡ 0
  pub listed : Listed
  pub next : IsListed plan 0 (count_of 0 book.entries) listed
  pub sweep : listed.line ≡ 0

-- the Book, the seats and what the builder of patterns tells are as before
pub record AreLeft (old new : BookView) (before after : List SeatView) (told tells : List Name) : Type 0 where
  pub book : new ≡ old
  pub seats : after ≡ before
  pub texts : tells ≡ told
