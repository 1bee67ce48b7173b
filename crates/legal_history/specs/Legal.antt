-- Legal histories of a session: right ones in which each actor plays what the session lists for it, and each entry stands
-- after its gate (this project's own).
use Rattle.std.specs.Prelude.{◌≡◌, ℕ, ◌==◌, List, [], ◌∷◌, reverse, Bool, true, false, ◌&&◌, Option, Some, None, IsTrue, is_some, option_and_then}
use Rattle.std.specs.List.{find, list_any}
use Rattle.xds_history.specs.call_journal.declared.event.DriverEvent.{DriverEvent}
use Rattle.xds_history.specs.call_journal.declared.event.CallerEvent.{CallerEvent}
use Rattle.xds_history.specs.call_journal.declared.reply.CallerReply.{CallerReply}
use Rattle.xds_history.specs.call_journal.declared.entry.What.{What}
use Rattle.xds_history.specs.call_journal.declared.entry.Entry.{Entry}
use Rattle.session_lines.specs.declared.session.Line.{Line}
use Rattle.session_lines.specs.declared.session.Session.{Session}
use Rattle.session_script.specs.Plan.{AreListed, entries_by, entry_event, last_sweep, listed_event}
use Rattle.xds_history.specs.Setting.{Setting, setting_of}
use Rattle.xds_history.specs.Right.{Right}

-- ---- starts

abbrev pub is_hold : What → Bool
is_hold (What.Caller (CallerEvent.Hold call) reply) = true
is_hold _ = false

abbrev pub is_pinned : CallerReply → Bool
is_pinned (CallerReply.Pinned number) = true
is_pinned _ = false

abbrev pub begins_with_hold : List Entry → Bool
begins_with_hold [] = false
begins_with_hold (e ∷ entries) = is_hold e.what

-- of a caller's entries, the oldest first: a hold follows a pin exactly where the pin got a snapshot
abbrev pub IsStarted : What → List Entry → Type 0
IsStarted (What.Caller (CallerEvent.Pin call) reply) later = begins_with_hold later ≡ is_pinned reply
IsStarted _ later = Unit {0}

abbrev pub AreStarted : List Entry → Type 0
AreStarted [] = Unit {0}
AreStarted (e ∷ later) = IsStarted e.what later × AreStarted later

-- ---- gates

-- whether an entry ends its line
abbrev pub ends_line : What → Bool
ends_line (What.Driver (DriverEvent.Response a payload) reply) = false
ends_line (What.Driver event reply) = true
ends_line (What.Caller (CallerEvent.Pin call) CallerReply.NoSnapshot) = true
ends_line (What.Caller (CallerEvent.Pin call) reply) = false
ends_line (What.Caller event reply) = true

abbrev pub has_ended : ℕ → List Entry → Bool
has_ended line past = list_any (λ e. e.line == line && ends_line e.what) past

-- the line that has to end before a line
abbrev pub gate_of : List Line → ℕ → Option ℕ
gate_of lines number = option_and_then (λ line. line.gate) (find (λ line. line.number == number) lines)

abbrev pub IsOpen : Option ℕ → List Entry → Type 0
IsOpen None past = Unit {0}
IsOpen (Some line) past = IsTrue (has_ended line past)

-- each entry of a line with a gate stands after the entry that ends the gate's line
abbrev pub AreOpen : List Line → List Entry → Type 0
AreOpen lines [] = Unit {0}
AreOpen lines (e ∷ past) = IsOpen (gate_of lines e.line) past × AreOpen lines past

-- ---- legal histories

-- the newest entry is the last sweep, which no line has
abbrev pub EndsInSweep : List Entry → Type 0
EndsInSweep [] = ⊥
EndsInSweep (e ∷ past) = entry_event e ≡ listed_event last_sweep

-- whether a payload is read as a response
abbrev pub is_read : Setting → List ℕ → Bool
is_read s payload = is_some (s.read payload)

-- a history of what the session lists: each actor's events, all of them, each once, in their order
pub record IsHistoryOf (session : Session) (s : Setting) (history : List Entry) : Type 0 where
  pub right : Right s history
  pub listed : AreListed (is_read s) session.callers session.lines (reverse history)
  pub started : (caller : ℕ) → AreStarted (entries_by caller (reverse history))
  pub opened : AreOpen session.lines history
  pub ends : EndsInSweep history

-- the same for the session's own bootstrap and target
abbrev pub Legal : Session → List Entry → Type 0
Legal session history = IsHistoryOf session (setting_of session.boot session.target) history
