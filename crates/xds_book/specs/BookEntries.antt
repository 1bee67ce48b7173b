-- What the steps of a Book make (this project's own).
use Rattle.std.specs.Prelude.{◌≡◌, ℕ, ◌+◌, ◌-◌, ◌<◌, ◌≤◌, List, [], ◌∷◌, ◌++◌, length, Bool, true, false, Option, Some, None, Result, Ok, Err, slice_get, option_and_then, IfSome, not, IsTrue}
use Rattle.std.specs.List.{list_all}
use Rattle.boxcar.specs.Table.{Where}
use Rattle.xc_base.specs.declared.call.Call.{Call}
use Rattle.xc_base.specs.declared.names.CallId.{CallId}
use Rattle.cluster_tree.specs.declared.snapshot.Snapshot.{Snapshot}
use Rattle.book_calls.specs.resource_check.declared.delivery.Prepared.{Prepared}
use Rattle.call_journal.specs.declared.event.DriverEvent.{DriverEvent}
use Rattle.call_journal.specs.declared.event.CallerEvent.{CallerEvent}
use Rattle.call_journal.specs.declared.reply.DriverReply.{DriverReply}
use Rattle.call_journal.specs.declared.reply.CallerReply.{CallerReply}
use Rattle.call_journal.specs.declared.entry.What.{What}
use Rattle.call_journal.specs.declared.entry.Entry.{Entry}
use Rattle.route_match.specs.declared.answer.RouteAnswer.{RouteAnswer}
use Rattle.book_calls.specs.xds_history.Setting.{Setting}
use Rattle.book_calls.specs.xds_history.Responses.{answered_kind, refused_in}
use Rattle.book_calls.specs.xds_history.Page.{latest}
use Rattle.book_calls.specs.xds_history.References.{pinned, references}
use Rattle.book_calls.specs.xds_history.Pages.{pages}
use Rattle.book_calls.specs.xds_history.Right.{caller_reply}
use Rattle.book_calls.specs.xds_history.HistoryLaws.{is_call}
use Rattle.book_driver.specs.book_streams.StreamsLaws.{authority_in}
pub use Rattle.book_driver.specs.book_hearing.HeardEvents.{IsPreparedFor}
pub use Rattle.book_driver.specs.Renewals.{texts_by as texts_for}
use Rattle.book_progress.specs.ActorCounts.{count_after, no_count}
use Rattle.book_progress.specs.ProgressKept.{counts_of, most_entries}
use Rattle.xds_book.specs.BookViews.{BookView, LaneView, PinnedView}
use Rattle.xds_book.specs.declared.book_faults.BookFault.{BookFault}

-- ---- lanes

-- a lane is of a Book where the Book keeps for its actor a count equal to the lane's
abbrev pub IsLaneOf : LaneView → BookView → Type 0
IsLaneOf lane book = slice_get book.counts lane.actor ≡ Some lane.count

-- the lane of an actor that has done nothing
abbrev pub first_lane : ℕ → LaneView
first_lane actor = record { actor = actor; count = no_count; refused = [] }

-- a Book in which nothing was done, of so many actors and with room for so many entries
abbrev pub first_book : ℕ → ℕ → BookView
first_book actors room = record { entries = []; spare = room; counts = counts_of actors []; tickets = []; is_spent = false }

-- ---- one entry

abbrev pub entry_of : ℕ → ℕ → What → Entry
entry_of actor line what = record { actor = actor; line = line; what = what }

-- an actor's lane after an entry of its own
abbrev pub lane_after : What → LaneView → LaneView
lane_after what lane = record { actor = lane.actor; count = count_after what lane.count; refused = lane.refused ++ refused_in what }

-- A step makes one entry, of the lane's actor and this line. The Book counts it as the lane does.
pub record Makes (line : ℕ) (what : What) (old new : BookView) (before after : LaneView) : Type 0 where
  pub entries : new.entries ≡ entry_of before.actor line what ∷ old.entries
  pub counts : new.counts ≡ counts_of (length old.counts) new.entries
  pub lane : after ≡ lane_after what before
  pub counted : IsLaneOf after new
  pub spare : old.spare ≤ new.spare + 1
  pub goes_on : new.is_spent ≡ old.is_spent

-- a step that makes none
pub record MakesNone (old new : BookView) : Type 0 where
  pub entries : new.entries ≡ old.entries
  pub counts : new.counts ≡ old.counts
  pub tickets : new.tickets ≡ old.tickets
  pub spare : old.spare ≤ new.spare

-- ---- faults

abbrev pub IsFull : BookView → Type 0
IsFull book = (book.is_spent ≡ false) × (length book.entries ≡ most_entries)

-- whether want of memory ends a Book: that of a step of the driver does
abbrev pub is_spent_after : {T : Type 0} → Result T BookFault → Bool → Bool
is_spent_after (Err BookFault.Memory) before = true
is_spent_after _ before = before

-- the fault of a hold, which gives the token back
abbrev pub fault_of : Result RouteAnswer (BookFault × PinnedView) → Option BookFault
fault_of (Ok answer) = None
fault_of (Err refused) = Some refused.0

-- ---- the driver's events

-- an authority that an event names is one of so many
abbrev pub IsKnownTo : ℕ → DriverEvent → Type 0
IsKnownTo n event = IfSome (authority_in event) (λ a. a.0 < n)

-- an entry of this event of the driver, with some reply
pub record Drives (line : ℕ) (event : DriverEvent) (prepared : Option Prepared) (old new : BookView) (before after : LaneView) : Type 0 where
  pub reply : DriverReply
  pub makes : Makes line (What.Driver event reply) old new before after
  pub refused : reply.refused ≡ texts_for (answered_kind reply.verdict) prepared

-- Only calls' entries stand between the driver's last entry and the end of a history, and calls refer to the same clusters
-- as they did there.
pub record IsStill (s : Setting) (history : List Entry) : Type 0 where
  pub between : List Entry
  pub before : Entry
  pub earlier : List Entry
  pub is : history ≡ between ++ before ∷ earlier
  pub calls : IsTrue (list_all (λ c. is_call c.what) between)
  pub driver : IsTrue (not (is_call before.what))
  pub references : references (pages s history) ≡ references (pages s earlier)

-- ---- calls

-- a caller's event, with its reply on the entries before it
abbrev pub answered_call : Setting → List Entry → CallerEvent → What
answered_call s past event = What.Caller event (caller_reply (pages s past) event)

-- the Book's own ticket of the snapshot of a number, from 1
abbrev pub ticket_at : ℕ → List (Where Snapshot) → Option (Where Snapshot)
ticket_at number tickets = slice_get tickets (number - 1)

-- the Book's own ticket of the snapshot that a call has pinned
abbrev pub own_ticket : Setting → BookView → CallId → Option (Where Snapshot)
own_ticket s book id = option_and_then (λ number. ticket_at number book.tickets) (pinned (pages s book.entries) id)

-- a ticket has the place of the Book's own
abbrev pub HasPlaceOf : Option (Where Snapshot) → Where Snapshot → Type 0
HasPlaceOf None ticket = ⊥
HasPlaceOf (Some own) ticket = own.index ≡ ticket.index

-- A pin gives no token exactly where no snapshot was published. Else it gives one of the call, which has the Book's own ticket
-- of the latest snapshot.
abbrev pub IsTokenOf : Setting → BookView → BookView → Call → Option PinnedView → Type 0
IsTokenOf s old new call None = latest (pages s old.entries) ≡ None
IsTokenOf s old new call (Some token) =
    (token.call ≡ call) × (latest (pages s old.entries) ≡ Some token.ticket.value) × (own_ticket s new call.id ≡ Some token.ticket)

-- the answer of a hold
abbrev pub IsAnswerIn : RouteAnswer → CallerReply → Type 0
IsAnswerIn answer (CallerReply.Routed number other) = answer ≡ other
IsAnswerIn answer _ = ⊥
