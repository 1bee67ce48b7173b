-- How far the turns of a report have been played on a Book, beside those of a legal history's report (this project's own).
-- Histories have the newest entry first: of `later ++ past` the entries `later` come after those of `past`.
use Rattle.std.specs.Prelude.{◌≡◌, ◌≢◌, ◌⊎◌, ℕ, List, [], ◌∷◌, ◌++◌, All, length, drop, true, false, Option, None, Some}
use Rattle.call_journal.specs.declared.entry.Entry.{Entry}
use Rattle.call_journal.specs.declared.plan.Listed.{Listed}
use Rattle.config_assembly.specs.Orders.{Name}
use Rattle.xds_bootstrap.specs.declared.bootstrap.Bootstrap.{Bootstrap}
use Rattle.xds_name.specs.declared.target.Target.{Target}
use Rattle.session_lines.specs.Lines.{lines_of}
use Rattle.session_lines.specs.declared.session.Session.{Session}
use Rattle.turn_player.specs.session_player.Stages.{IsOfSession}
use Rattle.completion_law.specs.xds_history.Responses.{refused_in}
use Rattle.completion_law.specs.xds_history.Setting.{setting_of}
use Rattle.replay_steps.specs.legal_history.Legal.{Legal}
use Rattle.completion_law.specs.CompletionLaw.{HasNoSweep}
use Rattle.alike_law.specs.turn_law.LinesBehind.{lines_behind}
use Rattle.alike_law.specs.listed_patterns.ListedPatterns.{listed_in}
use Rattle.report_turns.specs.TurnLines.{goes_on}
use Rattle.alike_law.specs.AlikeTexts.{Parting}
use Rattle.alike_law.specs.turn_law.TurnLaw.{IsTurn}
use Rattle.report_turns.specs.declared.entry_turns.EntryTurn.{EntryTurn}
use Rattle.replay_steps.specs.report_compare.declared.mistakes.Mistake.{Mistake}
use Rattle.turn_player.specs.TurnPlans.{SeatView}
use Rattle.turn_player.specs.TableSeats.{AreSeated, HasNoLineLeft}
use Rattle.turn_player.specs.xds_book.BookViews.{BookView}
use Rattle.replay_steps.specs.declared.next_turns.Next.{Next}
use Rattle.replay_steps.specs.declared.next_turns.Next.TheVariants as next

-- the plan of a session, the seats of its actors, and the lines of a report that are left
pub record ReplayView : Type 0 where
  pub plan : List (List Listed)
  pub seats : List SeatView
  pub lines : List (List ℕ)

-- no turn is played yet: all lines are left but the report's first one
pub record HasRead (plan : List (List Listed)) (seats : List SeatView) (report : List ℕ) (replay : ReplayView) : Type 0 where
  pub plan_is : replay.plan ≡ plan
  pub seats_are : replay.seats ≡ seats
  pub lines_are : replay.lines ≡ drop 1 (lines_of report)

-- what is replayed is a legal history of the session whose plan this is, and its entries are turns
pub record IsLegalReplay (plan : Option (List (List Listed))) (boot : Bootstrap) (target : Target) (session : Session) (history : List Entry) (lists : List (List Listed)) : Type 0 where
  pub of : IsOfSession plan boot target session lists
  pub legal : Legal session history
  pub turns : All IsTurn history

-- ---- how far it has come

-- the Book has these entries, and its actors have their seats
pub record HasCome (past : List Entry) (book : BookView) (seats : List SeatView) : Type 0 where
  pub entries : book.entries ≡ past
  pub seated : AreSeated book seats
  pub goes_on : book.is_spent ≡ false

-- the lines of a history's report that stand behind the first lines of the entries `past`
abbrev pub lines_left : Session → List Entry → List Entry → List (List ℕ)
lines_left session later past = lines_behind (setting_of session.boot session.target) session.boot.authorities later past

-- So many of the history's first entries are made, and others are left. Of the lines that its report and the one that is read have
-- in common some are left, and then those of each alone.
pub record IsAlong (session : Session) (history : List Entry) (parting : Parting) (made : ℕ) (book : BookView) (replay : ReplayView) : Type 0 where
  pub later : List Entry
  pub past : List Entry
  pub whole : later ++ past ≡ history
  pub left : later ≢ []
  pub many : made ≡ length past
  pub come : HasCome past book replay.seats
  pub before : List (List ℕ)
  pub common : List (List ℕ)
  pub split : parting.common ≡ before ++ common
  pub lines_are : replay.lines ≡ common ++ parting.one
  pub legal_are : lines_left session later past ≡ common ++ parting.other

-- The common lines are those of the history's first entries. Whatever else was made, these entries were made first.
pub record IsBeyond (session : Session) (history : List Entry) (parting : Parting) (book : BookView) : Type 0 where
  pub later : List Entry
  pub past : List Entry
  pub whole : later ++ past ≡ history
  pub left : later ≢ []
  pub more : List Entry
  pub entries : book.entries ≡ more ++ past
  pub before : List (List ℕ)
  pub common : List (List ℕ)
  pub split : parting.common ≡ before ++ common
  pub legal_are : lines_left session later past ≡ common ++ parting.other
  pub on : All (λ line. goes_on line ≡ true) common

-- all entries are made but the last sweep, whose turn was read
pub record HasSwept (history : List Entry) (book : BookView) (seats : List SeatView) : Type 0 where
  pub sweep : Entry
  pub past : List Entry
  pub whole : sweep ∷ past ≡ history
  pub come : HasCome past book seats

abbrev pub HasReplayed : Session → List Entry → Parting → ℕ → BookView → ReplayView → Type 0
HasReplayed session history parting made book replay = IsAlong session history parting made book replay ⊎ IsBeyond session history parting book

-- ---- one turn

-- Of the entries that are left this is the oldest one's turn. The lines behind it list the texts which that entry refused.
pub record IsTurnOf (session : Session) (history : List Entry) (parting : Parting) (made : ℕ) (turn : EntryTurn) (book : BookView) (replay : ReplayView) : Type 0 where
  pub later : List Entry
  pub entry : Entry
  pub past : List Entry
  pub whole : later ++ entry ∷ past ≡ history
  pub many : made ≡ length past
  pub come : HasCome past book replay.seats
  pub actor_is : turn.actor ≡ entry.actor
  pub line_is : turn.line ≡ entry.line
  pub listed : listed_in turn.more.now ≡ Some (refused_in entry.what)
  pub before : List (List ℕ)
  pub common : List (List ℕ)
  pub split : parting.common ≡ before ++ common
  pub lines_are : replay.lines ≡ common ++ parting.one
  pub legal_are : lines_left session later (entry ∷ past) ≡ common ++ parting.other

-- it is the turn of such an entry, or one behind the common lines
abbrev pub IsTurnIn : Session → List Entry → Parting → ℕ → EntryTurn → BookView → ReplayView → Type 0
IsTurnIn session history parting made turn book replay = IsTurnOf session history parting made turn book replay ⊎ IsBeyond session history parting book

-- what comes next: no turn is wrong while common lines are left, if the builder of patterns has refused no text
abbrev pub IsNextOfReplay : Session → List Entry → Parting → ℕ → List Name → List Name → BookView → ReplayView → Next → Type 0
IsNextOfReplay session history parting made told tells book replay next.Played = tells ≡ told → HasReplayed session history parting made book replay
IsNextOfReplay session history parting made told tells book replay next.End = HasSwept history book replay.seats ⊎ IsBeyond session history parting book
IsNextOfReplay session history parting made told tells book replay (next.Wrong mistake) = IsBeyond session history parting book

-- ---- all turns

-- no mistake was found, and all is played but the last sweep
pub record IsSweptTo (history : List Entry) (found : Option Mistake) (book : BookView) (seats : List SeatView) : Type 0 where
  pub none : found ≡ None
  pub swept : HasSwept history book seats

abbrev pub IsReplayed : Session → List Entry → Parting → Option Mistake → BookView → List SeatView → Type 0
IsReplayed session history parting found book seats = IsSweptTo history found book seats ⊎ IsBeyond session history parting book

-- ---- the turns of any report

-- the seats are those of the Book, which takes more entries, and no entry is the last sweep
pub record IsUnderWay (book : BookView) (seats : List SeatView) : Type 0 where
  pub seated : AreSeated book seats
  pub goes_on : book.is_spent ≡ false
  pub no_sweep : HasNoSweep book.entries

-- no line of the session is left to be played
pub record HasNoneLeft (plan : List (List Listed)) (book : BookView) (seats : List SeatView) : Type 0 where
  pub under_way : IsUnderWay book seats
  pub none : All (HasNoLineLeft plan) seats

-- what comes next in any report
abbrev pub IsNextOfAny : List (List Listed) → BookView → List SeatView → Next → Type 0
IsNextOfAny plan book seats next.Played = IsUnderWay book seats
IsNextOfAny plan book seats next.End = HasNoneLeft plan book seats
IsNextOfAny plan book seats (next.Wrong mistake) = HasNoSweep book.entries

-- the report's turns end, and no line is left at any seat, or one is
abbrev pub IsEndOfAny : List (List Listed) → List SeatView → Next → Type 0
IsEndOfAny plan seats next.Played = ⊥
IsEndOfAny plan seats next.End = All (HasNoLineLeft plan) seats
IsEndOfAny plan seats (next.Wrong mistake) = Unit {0}

-- what came of all turns of any report
abbrev pub IsPlayedByAny : List (List Listed) → BookView → List SeatView → Option Mistake → Type 0
IsPlayedByAny plan book seats None = HasNoneLeft plan book seats
IsPlayedByAny plan book seats (Some mistake) = HasNoSweep book.entries
