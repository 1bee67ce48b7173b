-- What an actor does next, and the entry that it makes (this project's own).
use Rattle.std.specs.Prelude.{◌≡◌, ◌<◌, ℕ, List, [], Option, Some, None, IfNone}
use Rattle.xc_base.specs.declared.names.Kind.{Kind}
use Rattle.call_journal.specs.declared.event.CallerEvent.{CallerEvent}
use Rattle.call_journal.specs.declared.entry.What.{What}
use Rattle.call_journal.specs.declared.plan.ListedEvent.{ListedEvent}
use Rattle.config_assembly.specs.Orders.{Name}
use Rattle.turn_steps.specs.xds_history.Responses.{answered_kind, refused_in}
use Rattle.turn_steps.specs.book_hearing.HeardEvents.{IsShortIn, texts_of}
use Rattle.session_player.specs.xds_book.BookEntries.{Makes}
use Rattle.session_player.specs.xds_book.BookViews.{BookView}
use Rattle.turn_steps.specs.listed_events.ListedEvents.{ListsFor}
use Rattle.turn_player.specs.TurnPlans.{SeatView}
use Rattle.turn_player.specs.declared.due_events.Act.{Act}
use Rattle.turn_player.specs.declared.due_events.Act.TheVariants as act

-- ---- one act

-- the listed event that an act plays
abbrev pub event_of : Act → ListedEvent
event_of (act.Drive coming) = ListedEvent.Driver coming.event
event_of (act.Start call) = ListedEvent.Start call
event_of (act.Pick call word) = ListedEvent.Pick call word
event_of (act.Commit call) = ListedEvent.Commit call

-- the pattern texts that are refused in it, where it is answered
abbrev pub texts_in : Act → List Name
texts_in (act.Drive coming) = texts_of coming.prepared
texts_in _ = []

-- the payload of a response is short enough to be read
abbrev pub IsShortOf : ListedEvent → Type 0
IsShortOf (ListedEvent.Driver event) = IsShortIn event
IsShortOf event = Unit {0}

-- the driver's events are those of actor 0, and callers are 1 and more
abbrev pub IsOf : ℕ → ListedEvent → Type 0
IsOf actor (ListedEvent.Driver event) = actor ≡ 0
IsOf actor event = 0 < actor

-- the texts that lines list for a listed event; one that is no response has none
abbrev pub ListsOf : ListedEvent → List ℕ → List Name → Type 0
ListsOf (ListedEvent.Driver event) lines listed = ListsFor event lines listed
ListsOf event lines listed = listed ≡ []

-- ---- the entry of an act

-- the listed event that an entry plays, or begins to play
abbrev pub called : CallerEvent → ListedEvent
called (CallerEvent.Pin call) = ListedEvent.Start call
called (CallerEvent.Hold call) = ListedEvent.Start call
called (CallerEvent.Pick id word) = ListedEvent.Pick id word
called (CallerEvent.Commit id) = ListedEvent.Commit id

abbrev pub played_by : What → ListedEvent
played_by (What.Driver event reply) = ListedEvent.Driver event
played_by (What.Caller event reply) = called event

abbrev pub told_where : Option Kind → List Name → List Name
told_where None texts = []
told_where (Some kind) texts = texts

-- an entry tells texts as refused where it answers a response, and else none
abbrev pub told_by : What → List Name → List Name
told_by (What.Driver event reply) texts = told_where (answered_kind reply.verdict) texts
told_by (What.Caller event reply) texts = []

-- An act at a seat has made an entry of the lane's actor, of this line and event, which tells these texts as refused where it
-- answers a response. The lane counts no pin where none is up.
pub record MakesTurn (line : ℕ) (event : ListedEvent) (texts : List Name) (old new : BookView) (before after : SeatView) : Type 0 where
  pub what : What
  pub event_is : played_by what ≡ event
  pub makes : Makes line what old new before.lane after.lane
  pub refused : refused_in what ≡ told_by what texts
  pub free : IfNone after.up (after.lane.count.pins ≡ 0)
  pub of : IsOf before.lane.actor event
