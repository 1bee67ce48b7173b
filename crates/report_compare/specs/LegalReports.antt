-- Reports that are legal (this project's own).
use Rattle.std.specs.Prelude.{◌≡◌, ℕ, List}
use Rattle.call_journal.specs.declared.entry.Entry.{Entry}
use Rattle.session_lines.specs.declared.session.Session.{Session}
use Rattle.text_law.specs.legal_history.Legal.{Legal}
use Rattle.text_law.specs.TextLaw.{text_of}
use Rattle.front_law.specs.FrontLaw.{IsFrontOf}

-- a text is the report of a legal history of a session
pub record IsReportOf (session : Session) (text : List ℕ) : Type 0 where
  pub history : List Entry
  pub legal : Legal session history
  pub text_is : text_of session history ≡ text

-- with this text the report of a legal history of a session begins
pub record BeginsReport (session : Session) (front : List ℕ) : Type 0 where
  pub history : List Entry
  pub legal : Legal session history
  pub begins : IsFrontOf front (text_of session history)
