-- What is answered of a report (this project's own).
use Rattle.std.specs.Prelude.{◌≡◌, ℕ, List, Ok}
use Rattle.session_lines.specs.Session.{session_of}
use Rattle.session_lines.specs.declared.cause.SessionFault.{SessionFault}
use Rattle.session_lines.specs.declared.cause.SessionFault.TheVariants as fault
use Rattle.session_lines.specs.declared.session.Session.{Session}
use Rattle.call_journal.specs.declared.entry.Entry.{Entry}
use Rattle.judged_session.specs.legal_history.Legal.{Legal}
use Rattle.judged_session.specs.text_law.TextLaw.{text_of}
use Rattle.judged_session.specs.alike_law.AlikeTexts.{GoesAlike}
use Rattle.judged_session.specs.report_compare.LegalReports.{BeginsReport, IsReportOf}
use Rattle.report_judge.specs.declared.verdicts.Verdict.{Verdict}
use Rattle.report_judge.specs.declared.verdicts.Verdict.TheVariants as verdict

-- bytes spell a session, of which a text is the report of a legal history
pub record IsLegalReport (bytes text : List ℕ) : Type 0 where
  pub session : Session
  pub spells : session_of bytes ≡ Ok session
  pub report : IsReportOf session text

-- bytes spell a session, and with this text the report of a legal history of it begins
pub record BeginsLegalReport (bytes front : List ℕ) : Type 0 where
  pub session : Session
  pub spells : session_of bytes ≡ Ok session
  pub begins : BeginsReport session front

-- Bytes spell a session, and the report of a legal history of it has so many first lines of a text, and lists the same patterns
-- behind each of these in which an entry begins.
pub record GoesOnLegally (bytes report : List ℕ) (number : ℕ) : Type 0 where
  pub session : Session
  pub history : List Entry
  pub spells : session_of bytes ≡ Ok session
  pub legal : Legal session history
  pub alike : GoesAlike number report (text_of session history)

-- the answer for bytes that are no session, or that weren't read as one for want of memory
abbrev pub refusal_of : SessionFault → Verdict
refusal_of (fault.Script line cause) = verdict.Session line cause
refusal_of fault.Memory = verdict.Memory
