-- Where turns stand in a plan, and the steps that are made of them (this project's own).
use Rattle.std.specs.Prelude.{◌≡◌, ◌≢◌, ℕ, List, Option, Some, None, IfNone, slice_get, slice_set}
use Rattle.call_journal.specs.declared.plan.Listed.{Listed}
use Rattle.call_journal.specs.declared.plan.ListedEvent.{ListedEvent}
use Rattle.config_assembly.specs.Orders.{Name}
use Rattle.book_progress.specs.EndedLines.{IsOpen}
use Rattle.book_progress.specs.PlayedPlans.{IsListed, IsNext, Step}
use Rattle.session_player.specs.xds_book.BookEntries.{IsLaneOf}
use Rattle.session_player.specs.xds_book.BookViews.{BookView, LaneView}
use Rattle.turn_steps.specs.channel_calls.ChannelPlans.{HasNext}
use Rattle.turn_player.specs.TurnPlans.{IsUp, SeatView, UpView}
use Rattle.turn_player.specs.DueEvents.{ListsOf, MakesTurn}
use Rattle.turn_player.specs.TableSeats.{AreSeated, IsDue}
use Rattle.turn_player.specs.declared.turn_places.Place.{Place}
use Rattle.turn_player.specs.declared.turn_places.Place.TheVariants as place

-- this is listed next for a lane, in this line, and its gate is open
pub record IsNextAt (plan : Option (List (List Listed))) (line : ℕ) (book : BookView) (lane : LaneView) (listed : Listed) : Type 0 where
  pub next : HasNext plan lane listed.line listed.after listed.event
  pub line_is : listed.line ≡ line
  pub some : line ≢ 0
  pub gate : IsLaneOf lane book → IsOpen listed.after book.entries

-- no step of this line comes next for a lane
abbrev pub IsMisplaced : List (List Listed) → ℕ → BookView → LaneView → Type 0
IsMisplaced plan line book lane = (step : Step) → IsNext (Some plan) lane.actor lane.count line step book.entries → line ≢ 0 → ⊥

-- this pin of a lane is up, and its call starts in this line
pub record IsUpHere (plan : Option (List (List Listed))) (line : ℕ) (lane : LaneView) (up : UpView) : Type 0 where
  pub up_is : IsUp plan lane up
  pub line_is : up.line ≡ line
  pub some : line ≢ 0

abbrev pub IsUpAt : Option (List (List Listed)) → ℕ → LaneView → Option UpView → Type 0
IsUpAt plan line lane None = ⊥
IsUpAt plan line lane (Some up) = IsUpHere plan line lane up

-- where a turn of this line stands for a lane of which no pin is up
abbrev pub IsFreePlace : List (List Listed) → ℕ → BookView → LaneView → Place → Type 0
IsFreePlace plan line book lane (place.Misplaced why) = IsLaneOf lane book → lane.count.pins ≡ 0 → IsMisplaced plan line book lane
IsFreePlace plan line book lane place.Sweep = line ≡ 0
IsFreePlace plan line book lane place.Hold = ⊥
IsFreePlace plan line book lane (place.Next listed) = IsNextAt (Some plan) line book lane listed.now

-- where it stands for the actor of a seat
abbrev pub IsPlace : Option (List (List Listed)) → List (List Listed) → ℕ → BookView → SeatView → Place → Type 0
IsPlace plan lists line book seat (place.Misplaced why) = IsLaneOf seat.lane book → IfNone seat.up (seat.lane.count.pins ≡ 0) → IsMisplaced lists line book seat.lane
IsPlace plan lists line book seat place.Sweep = line ≡ 0
IsPlace plan lists line book seat place.Hold = IsUpAt plan line seat.lane seat.up
IsPlace plan lists line book seat (place.Next listed) = (seat.up ≡ None) × IsNextAt (Some lists) line book seat.lane listed.now

-- at the seat of this actor a pin is up whose call starts in this line
pub record IsHoldAt (plan : Option (List (List Listed))) (actor line : ℕ) (seats : List SeatView) : Type 0 where
  pub seat : SeatView
  pub up : UpView
  pub at : slice_get seats actor ≡ Some seat
  pub up_is : seat.up ≡ Some up
  pub here : IsUpHere plan line seat.lane up

-- at the seat of this actor no pin is up, and this is listed next for its lane
pub record IsNextOn (plan : Option (List (List Listed))) (actor line : ℕ) (book : BookView) (seats : List SeatView) (listed : Listed) : Type 0 where
  pub seat : SeatView
  pub at : slice_get seats actor ≡ Some seat
  pub free : seat.up ≡ None
  pub next : IsNextAt plan line book seat.lane listed

-- where the turn of an actor stands, by the seats of a table
abbrev pub IsTurnPlace : Option (List (List Listed)) → List (List Listed) → ℕ → ℕ → BookView → List SeatView → Place → Type 0
IsTurnPlace plan lists actor line book seats (place.Misplaced why) = AreSeated book seats → IsDue lists actor line book → line ≢ 0 → ⊥
IsTurnPlace plan lists actor line book seats place.Sweep = line ≡ 0
IsTurnPlace plan lists actor line book seats place.Hold = IsHoldAt plan actor line seats
IsTurnPlace plan lists actor line book seats (place.Next listed) = IsNextOn (Some lists) actor line book seats listed.now

-- the turn is that of the last sweep
abbrev pub IsSweepPlace : Place → Type 0
IsSweepPlace (place.Misplaced why) = ⊥
IsSweepPlace place.Sweep = Unit {0}
IsSweepPlace place.Hold = ⊥
IsSweepPlace (place.Next listed) = ⊥

-- what is listed next for a lane of which no pin is up stands in line 0, that of the last sweep
pub record IsSweepListed (plan : List (List Listed)) (lane : LaneView) : Type 0 where
  pub free : lane.count.pins ≡ 0
  pub listed : Listed
  pub next : IsListed plan lane.actor lane.count listed
  pub sweep : listed.line ≡ 0

-- ---- the step of a turn

-- a step at the seat of an actor has made an entry of this line and event
pub record PlaysOnce (actor line : ℕ) (event : ListedEvent) (texts : List Name) (old new : BookView) (before after : List SeatView) : Type 0 where
  pub seat : SeatView
  pub later : SeatView
  pub at : slice_get before actor ≡ Some seat
  pub seats : after ≡ slice_set before actor later
  pub turn : MakesTurn line event texts old new seat later

-- The turn of an actor has made its entry. The texts that it tells are those that the lines list, if the builder of patterns
-- has refused no text.
pub record IsTurnMade (actor line : ℕ) (lines : List ℕ) (old new : BookView) (before after : List SeatView) (told tells : List Name) : Type 0 where
  pub event : ListedEvent
  pub texts : List Name
  pub once : PlaysOnce actor line event texts old new before after
  pub known : (listed : List Name) → ListsOf event lines listed → tells ≡ told → texts ≡ listed
