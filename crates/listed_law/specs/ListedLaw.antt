-- What the report of a legal history lists as refused behind the first line of each of its entries (this project's own).
-- Histories have the newest entry first: of `later ++ e ∷ past` the entries `later` come after `e`.
use Rattle.std.specs.Prelude.{◌≡◌, List, ◌∷◌, ◌++◌, Some}
use Rattle.call_journal.specs.declared.entry.Entry.{Entry}
use Rattle.session_lines.specs.declared.session.Session.{Session}
use Rattle.turn_law.specs.xds_history.Setting.{setting_of}
use Rattle.turn_law.specs.xds_history.Responses.{refused_in}
use Rattle.turn_law.specs.legal_history.Legal.{Legal}
use Rattle.listed_patterns.specs.ListedPatterns.{listed_from}
use Rattle.turn_law.specs.LinesBehind.{lines_behind}

-- what the lines behind the first one of an entry of a legal history list first are the pattern texts that the entry refused
abbrev pub ListedOfLegal : Type 0
ListedOfLegal =
    (session : Session) (later past : List Entry) (e : Entry) → Legal session (later ++ e ∷ past)
    → listed_from (lines_behind (setting_of session.boot session.target) session.boot.authorities later (e ∷ past)) ≡ Some (refused_in e.what)
