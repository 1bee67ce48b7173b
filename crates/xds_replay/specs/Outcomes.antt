-- What a run did (this project's own).
use Rattle.std.specs.Prelude.{◌≡◌, ◌⊎◌, ℕ, List, [], Option, IfSome, Ok}
use Rattle.std.specs.Io.KnownBytes.{Appends, Keeps}
use Rattle.xc_base.specs.Outside.{AppendsPrefix}
use Rattle.call_journal.specs.declared.entry.Entry.{Entry}
use Rattle.config_assembly.specs.Orders.{Name}
use Rattle.session_lines.specs.Session.{session_of}
use Rattle.session_lines.specs.declared.session.Session.{Session}
use Rattle.session_generator.specs.Generated.{generated}
use Rattle.generated_law.specs.GeneratedSession.{generated_session}
use Rattle.xds_history.specs.Setting.{setting_of}
use Rattle.legal_history.specs.Legal.{Legal}
use Rattle.text_law.specs.TextLaw.{text_of}
use Rattle.report_law.specs.ReportLaw.{totals}
use Rattle.threaded_player.specs.session_player.Stages.{Refuses}
use Rattle.program_status.specs.declared.commands.Command.{Command}
use Rattle.program_status.specs.declared.statuses.Status.{Status}
use Rattle.program_status.specs.declared.statuses.Status.TheVariants as status

-- ---- what is written

-- a legal history of a session, whose refused texts are, in order, among those that were refused in the meantime
pub record IsPlayed (session : Session) (before after : List Name) (history : List Entry) : Type 0 where
  pub legal : Legal session history
  pub refused : Refuses [] history before after

-- P of the report of such a history of the session that the bytes spell
pub record Reports (P : List ℕ → Type 0) (before after : List Name) (bytes : List ℕ) : Type 0 where
  pub session : Session
  pub spells : session_of bytes ≡ Ok session
  pub history : List Entry
  pub played : IsPlayed session before after history
  pub text : P (text_of session history)

-- the totals of a history of a session of so many rounds
abbrev pub totals_of : ℕ → Session → List Entry → List ℕ
totals_of rounds session history = totals rounds (setting_of session.boot session.target) history

-- P of the totals of such a history of the generated session
pub record Totals (P : List ℕ → Type 0) (rounds : ℕ) (before after : List Name) : Type 0 where
  pub history : List Entry
  pub played : IsPlayed (generated_session rounds) before after history
  pub text : P (totals_of rounds (generated_session rounds) history)

-- ---- the answers

-- what a command has done, by the bytes that the source had left and those that the sink held and holds, where they are told
abbrev pub IsDone : Command → Option (List ℕ) → Option (List ℕ) → Option (List ℕ) → List Name → List Name → Type 0
IsDone Command.Run left old new before after = IfSome left (Reports (Appends old new) before after)
IsDone (Command.Gen rounds) left old new before after = Appends old new (generated rounds)
IsDone (Command.Load rounds) left old new before after = Totals (Appends old new) rounds before after

-- nothing is written, or a prefix of what a command writes
abbrev pub IsBegun : Command → Option (List ℕ) → Option (List ℕ) → Option (List ℕ) → List Name → List Name → Type 0
IsBegun Command.Run left old new before after = IfSome left (λ bytes. Keeps old new ⊎ Reports (AppendsPrefix old new) before after bytes)
IsBegun (Command.Gen rounds) left old new before after = AppendsPrefix old new (generated rounds)
IsBegun (Command.Load rounds) left old new before after = Keeps old new ⊎ Totals (AppendsPrefix old new) rounds before after

-- after these nothing is written
abbrev pub WritesNothing : Status → Type 0
WritesNothing status.Done = ⊥
WritesNothing status.Words = Unit {0}
WritesNothing (status.Session line cause) = Unit {0}
WritesNothing status.ReadFault = Unit {0}
WritesNothing status.WriteFault = ⊥
WritesNothing status.Memory = ⊥

-- how a command ends that reads nothing
abbrev pub IsWritten : Status → Type 0
IsWritten status.Done = Unit {0}
IsWritten status.Words = ⊥
IsWritten (status.Session line cause) = ⊥
IsWritten status.ReadFault = ⊥
IsWritten status.WriteFault = Unit {0}
IsWritten status.Memory = Unit {0}
