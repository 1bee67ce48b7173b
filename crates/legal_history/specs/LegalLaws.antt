-- How long legal histories are.
use Rattle.std.specs.Prelude.{ℕ, ◌≤◌, List, length}
use Rattle.xds_history.specs.call_journal.declared.entry.Entry.{Entry}
use Rattle.session_lines.specs.declared.session.Session.{Session}
use Rattle.session_script.specs.ScriptLaws.{HasRoom}
use Rattle.legal_history.specs.Legal.{Legal}

-- a legal history has at most as many entries as there is room for in its session, which `room` of `session_script` counts
abbrev pub FewEntries : Type 0
FewEntries = (session : Session) (room : ℕ) (history : List Entry) → HasRoom session room → Legal session history → length history ≤ room
