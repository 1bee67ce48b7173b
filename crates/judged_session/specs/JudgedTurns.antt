-- What came of the turns of a report that were played on the Book of its session (this project's own).
use Rattle.std.specs.Prelude.{◌≡◌, ◌⊎◌, ◌+◌, ℕ, List, All, Ok, map}
use Rattle.call_journal.specs.declared.entry.Entry.{Entry}
use Rattle.call_journal.specs.declared.plan.Listed.{Listed}
use Rattle.session_lines.specs.Session.{session_of}
use Rattle.session_lines.specs.declared.session.Session.{Session}
use Rattle.report_replay.specs.alike_law.AlikeTexts.{GoesAlike, Parting, PartsAt}
use Rattle.report_replay.specs.legal_history.Legal.{Legal}
use Rattle.report_replay.specs.text_law.TextLaw.{text_of}
use Rattle.report_replay.specs.turn_law.TurnLaw.{IsTurn}
use Rattle.report_replay.specs.completion_law.CompletionLaw.{HasNoSweep, IsAtSweep}
use Rattle.report_replay.specs.xds_book.BookEntries.{first_book}
use Rattle.report_replay.specs.xds_book.BookViews.{BookView, LaneView}
use Rattle.report_replay.specs.turn_player.TurnPlans.{SeatView}
use Rattle.report_replay.specs.ReplayedTurns.{HasSwept, IsBeyond, IsUnderWay}
use Rattle.judged_session.specs.declared.played_reports.Outcome.{Outcome}
use Rattle.judged_session.specs.declared.played_reports.Outcome.TheVariants as outcome

-- a Book of so many callers in which nothing was done
pub record IsFirst (callers : ℕ) (book : BookView) : Type 0 where
  pub room : ℕ
  pub is : book ≡ first_book (callers + 1) room

-- all entries of a history are made but the last sweep
pub record IsWhole (history : List Entry) (book : BookView) : Type 0 where
  pub seats : List SeatView
  pub swept : HasSwept history book seats

-- all is played but the last sweep, which comes next, and these are the lanes of the Book's actors
pub record IsAllPlayed (plan : List (List Listed)) (book : BookView) (lanes : List LaneView) : Type 0 where
  pub seats : List SeatView
  pub under_way : IsUnderWay book seats
  pub at : IsAtSweep plan book.entries
  pub lanes_are : lanes ≡ map (λ seat. seat.lane) seats

-- what came of the turns of a report, beside those of a legal history's
abbrev pub IsBesideOutcome : {J : Type 0} → Session → List Entry → Parting → BookView → Outcome J → Type 0
IsBesideOutcome session history parting book (outcome.Whole lanes) = IsWhole history book ⊎ IsBeyond session history parting book
IsBesideOutcome session history parting book (outcome.Stopped mistake) = IsBeyond session history parting book

-- what came of the turns of any report: all is played but the last sweep, or some entries are made, none of which is the last
-- sweep
abbrev pub IsAnyOutcome : {J : Type 0} → List (List Listed) → BookView → Outcome J → Type 0
IsAnyOutcome plan book (outcome.Whole lanes) = IsAllPlayed plan book lanes.items
IsAnyOutcome plan book (outcome.Stopped mistake) = HasNoSweep book.entries

-- ---- the line of a mistake

-- No legal history whose turns came so far on the Book has a report that goes on like this one to this line.
abbrev pub IsApart : Session → List ℕ → ℕ → (List Entry → Parting → Type 0) → Type 0
IsApart session report number Came =
    (history : List Entry) (parts : PartsAt number report (text_of session history)) → Legal session history → All IsTurn history → GoesAlike number report (text_of session history) → Came history parts.parting → ⊥

-- the same of any legal history
abbrev pub IsWrongAt : Session → List ℕ → ℕ → Type 0
IsWrongAt session report number = (history : List Entry) → Legal session history → All IsTurn history → GoesAlike number report (text_of session history) → ⊥

-- the same of a session that bytes spell
abbrev pub IsWrongFor : Session → List ℕ → ℕ → Type 0
IsWrongFor session report number =
    (bytes : List ℕ) (history : List Entry) → session_of bytes ≡ Ok session → Legal session history → GoesAlike number report (text_of session history) → ⊥
