-- The turns that are read from the report of a history are those of its entries (this project's own).
use Rattle.std.specs.Prelude.{◌≡◌, ℕ, ◌^◌, ◌≤◌, ◌<◌, ◌++◌, List, [], ◌∷◌, All, IsTrue, Ok, drop, map, reverse}
use Rattle.xds_name.specs.NameTexts.{lacks}
use Rattle.xds_bootstrap.specs.declared.bootstrap.AuthorityEntry.{AuthorityEntry}
use Rattle.call_journal.specs.declared.event.DriverEvent.{DriverEvent}
use Rattle.call_journal.specs.declared.entry.Entry.{Entry}
use Rattle.call_journal.specs.declared.entry.What.{What}
use Rattle.session_lines.specs.Lines.{lines_of}
use Rattle.session_lines.specs.Session.{session_of}
use Rattle.session_lines.specs.declared.session.Session.{Session}
use Rattle.report_turns.specs.TurnLines.{EntryPlace, end, entry, findings_in}
use Rattle.text_law.specs.xds_history.Setting.{Setting}
use Rattle.text_law.specs.legal_history.Legal.{Legal}
use Rattle.text_law.specs.legal_history.Report.{report}

-- the driver is actor 0, and callers are 1 and more, in 16 bits
abbrev pub IsActor : ℕ → What → Type 0
IsActor actor (What.Driver event reply) = actor ≡ 0
IsActor actor (What.Caller event reply) = (1 ≤ actor) × (actor < 2 ^ 16)

-- the address of an endpoint whose state an event tells, which is printed without escapes; other events have none
abbrev pub event_address : DriverEvent → List ℕ
event_address (DriverEvent.Endpoint address state) = address
event_address _ = []

abbrev pub address_in : What → List ℕ
address_in (What.Driver event reply) = event_address event
address_in (What.Caller event reply) = []

-- an entry of its actor, for a line of the session in 32 bits, and with no line feed in an address
pub record IsTurn (e : Entry) : Type 0 where
  pub actor : IsActor e.actor e.what
  pub line : e.line < 2 ^ 32
  pub one_line : IsTrue (lacks 10 (address_in e.what))

-- whose turn an entry is, and which line of the session it plays
abbrev pub place_of : Entry → EntryPlace
place_of e = record { actor = e.actor; line = e.line }

-- what is found in the lines of a history's report behind the first one are its entries, the oldest first, and then the end
abbrev pub TurnsOfReport : Type 0
TurnsOfReport =
    (s : Setting) (authorities : List AuthorityEntry) (history : List Entry) → All IsTurn history
    → findings_in (drop 1 (lines_of (report s authorities history)))
    ≡ map (λ e. entry (place_of e)) (reverse history) ++ end ∷ []

-- the entries of a legal history of a session that bytes spell are turns
abbrev pub LegalAreTurns : Type 0
LegalAreTurns =
    (bytes : List ℕ) (session : Session) (history : List Entry) → session_of bytes ≡ Ok session → Legal session history → All IsTurn history
