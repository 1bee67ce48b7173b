-- How many entries the history of a session has at most (this project's own).
use Rattle.std.specs.Prelude.{ℕ, ◌≤◌, List, length, Bool, reverse}
use Rattle.call_journal.specs.declared.entry.Entry.{Entry}
use Rattle.session_script.specs.Plan.{AreListed}
use Rattle.session_lines.specs.declared.session.Session.{Session}

-- whichever payloads are read as responses, a journal whose entries are those of the session's listed events has at most so many; its newest entry comes first
abbrev pub HasRoom : Session → ℕ → Type 0
HasRoom session room = (readable : List ℕ → Bool) (journal : List Entry) → AreListed readable session.callers session.lines (reverse journal) → length journal ≤ room
