-- What is shown of the bytes of a session, in one line.
use Rattle.std.specs.Prelude.{ℕ, ◌+◌, List, [], ◌∷◌, ◌++◌, codes, length, Result, Ok, Err}
use Rattle.std.specs.Fmt.{decimal}
use Rattle.session_lines.specs.declared.session.Session.{Session}
use Rattle.session_lines.specs.Before.{entries}
use Rattle.session_lines.specs.LineCauses.{cause_word}
use Rattle.session_lines.specs.Session.{Refusal}

-- how many lines it has from line 5 on, and how many entries it makes at most
abbrev pub session_line : Session → List ℕ
session_line session = codes "lines " ++ (decimal (length session.lines) ++ (codes " room " ++ (decimal (entries session.lines + 1) ++ 10 ∷ [])))

-- its first fault
abbrev pub refusal_line : Refusal → List ℕ
refusal_line refusal = codes "fault " ++ (decimal refusal.line ++ 32 ∷ (cause_word refusal.cause ++ 10 ∷ []))

abbrev pub shown : Result Session Refusal → List ℕ
shown (Ok session) = session_line session
shown (Err refusal) = refusal_line refusal
