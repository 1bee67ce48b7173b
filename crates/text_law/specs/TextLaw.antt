-- A session and the text of a report have at most one legal history (this project's own).
use Rattle.std.specs.Prelude.{◌≡◌, ℕ, List, Ok}
use Rattle.call_journal.specs.declared.entry.Entry.{Entry}
use Rattle.session_lines.specs.Session.{session_of}
use Rattle.session_lines.specs.declared.session.Session.{Session}
use Rattle.legal_history.specs.xds_history.Setting.{setting_of}
use Rattle.legal_history.specs.Legal.{Legal}
use Rattle.legal_history.specs.Report.{report}

-- the text of a history of a session
abbrev pub text_of : Session → List Entry → List ℕ
text_of session history = report (setting_of session.boot session.target) session.boot.authorities history

-- two legal histories of a session that bytes spell are the same where their texts are
abbrev pub OneText : Type 0
OneText =
    (bytes : List ℕ) (session : Session) (one other : List Entry) → session_of bytes ≡ Ok session
    → Legal session one → Legal session other → text_of session one ≡ text_of session other → one ≡ other
